-- `carry_out` meets its contract. The invariant: what was done and what is left make up what the whole list comes to.
use Rattle.layout.specs.Carried.{memory}
use Rattle.run.proofs.Laws.{Going}
use Rattle.run.proofs.carry_out.Given as goal

abbrev pub invariant-loop-n : goal.invariant-loop-n
invariant-loop-n l = Going l.steps l.initial.answers l.answers (memory l.initial.words l.initial.drivers) (memory l.words l.drivers) l.at l.n
