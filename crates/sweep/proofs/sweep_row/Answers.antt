-- `sweep_row` meets its contract: queue by queue, and it ends at the first that needs more moves than are left.
use native.Mathlib.Omega.{arith}
use mathlib.Core.Path.{refl}
use Rattle.sweep.proofs.Laws.{sweep_starts, as_long, queue_done, queue_short, part_done}
use Rattle.sweep.proofs.sweep_row.Goals as goal

pub loop-n-init : goal.loop-n-init
loop-n-init c = let a = c.args in sweep_starts a.words.now a.drivers.now _ a.moves

pub returns-then-left-due : goal.returns-then-left-due
returns-then-left-due c =
    queue_short c.loop-n.invariant c.of-row.ensures (omega arith) c.driver.ensures c.target-target.ensures c.due_by-due.ensures
    c.if-left-due.true c.settle.ensures

pub loop-n-preserved : goal.loop-n-preserved
loop-n-preserved c =
    queue_done c.loop-n.invariant c.of-row.ensures (omega arith) c.driver.ensures c.target-target.ensures c.due_by-due.ensures
    _ (omega (arith, as_long c.loop-n.invariant)) c.if-left-due.false c.finish.ensures refl

pub returns-else-left-due : goal.returns-else-left-due
returns-else-left-due c =
    part_done
    (queue_done c.loop-n.invariant c.of-row.ensures (omega arith) c.driver.ensures c.target-target.ensures c.due_by-due.ensures
    256 (omega (arith, as_long c.loop-n.invariant)) c.if-left-due.false c.finish.ensures (omega arith))
