-- `write` meets its contract. The invariant: the digits from an index on are written.
use Rattle.decimal.proofs.Laws.{Sofar}
use Rattle.decimal.proofs.write.Given as goal

abbrev pub invariant-loop-rest : goal.invariant-loop-rest
invariant-loop-rest l = Sofar l.n l.bytes l.from l.rest

abbrev pub decreases-loop-rest : goal.decreases-loop-rest
decreases-loop-rest l = l.rest
