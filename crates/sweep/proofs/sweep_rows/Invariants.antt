-- The loop's invariant: the bytes are those of a sweep of the queues passed.
use Prim.Native.Nat.{◌*◌}
use Rattle.sweep.proofs.Laws.{Underway}
use Rattle.sweep.proofs.sweep_rows.Given as goal

abbrev pub invariant-loop-adapter : goal.invariant-loop-adapter
invariant-loop-adapter l = Underway l.words l.initial.drivers 0 l.moves (l.adapter * 256) l.left l.drivers
