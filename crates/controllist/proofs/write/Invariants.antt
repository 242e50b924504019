-- `write` meets its contract. The invariant: the domains before `domain` are done, and their lines stand in the first `at` bytes.
use Rattle.mask.specs.Bits.{bits}
use Rattle.controllist.proofs.Laws.{Sofar}
use Rattle.controllist.proofs.write.Given as goal

abbrev pub invariant-loop-domain : goal.invariant-loop-domain
invariant-loop-domain l = Sofar (bits l.controls) l.initial.text l.text l.domain l.at
