-- `write` meets its contract. The invariant: the earlier queues are done, and their lines stand in the first `at` bytes.
use Rattle.product.specs.Meet.{queues_of}
use Rattle.lines.proofs.Laws.{Sofar}
use Rattle.lines.proofs.write.Given as goal

abbrev pub invariant-loop-n : goal.invariant-loop-n
invariant-loop-n l = Sofar (queues_of l.product) l.place l.initial.buf l.buf l.n l.at l.next
