-- `take_all` meets its contract: what the turns so far took of the input stays taken.
use Rattle.layout.specs.Carried.{memory}
use Rattle.session.specs.Sessions.{Passed}
use Rattle.session.proofs.take_all.Given as goal

abbrev pub invariant-loop : goal.invariant-loop
invariant-loop g l = Passed l.initial.line l.line (memory l.initial.words l.initial.drivers) (memory l.words l.drivers)
