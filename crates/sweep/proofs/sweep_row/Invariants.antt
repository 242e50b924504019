-- The loop's invariant: the bytes are those of a sweep of the queues passed.
use Prim.Native.Nat.{◌*◌}
use Rattle.sweep.proofs.Laws.{Underway}
use Rattle.sweep.proofs.sweep_row.Given as goal

abbrev pub invariant-loop-n : goal.invariant-loop-n
invariant-loop-n l = Underway l.words l.initial.drivers (l.adapter.0 * 256) l.moves l.n l.left l.drivers
