-- The loop's invariant: the sum is that of the queues passed.
use Rattle.std.proofs.Common.{◌*◌, ◌≡◌}
use Rattle.rules.specs.Queues.{due_at, sum_from}
use Rattle.layout.specs.Layout.{state_in}
use Rattle.due.proofs.remaining.Given as goal

abbrev pub invariant-loop-adapter : goal.invariant-loop-adapter
invariant-loop-adapter l = l.sum ≡ sum_from (l.adapter * 256) 0 (due_at (state_in l.words l.drivers))
