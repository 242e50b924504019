-- `sweep_rows` meets its contract: adapter by adapter, and it ends at the first whose queues need more moves than are left.
use native.Mathlib.Omega.{arith}
use mathlib.Core.Path.{refl}
use Rattle.rules.specs.State.{queues}
use Rattle.sweep.proofs.Laws.{sweep_starts, row_goes_on, row_stops, part_done}
use Rattle.sweep.proofs.sweep_rows.Goals as goal

pub loop-adapter-init : goal.loop-adapter-init
loop-adapter-init c = let a = c.args in sweep_starts a.words.now a.drivers.now 0 a.moves

pub returns-in_err-left : goal.returns-in_err-left
returns-in_err-left c = rw c.from_residual.ensures (row_stops c.loop-adapter.adapter c.loop-adapter.invariant c.sweep_row.ensures c.in_err-left.was (omega arith))

pub loop-adapter-preserved : goal.loop-adapter-preserved
loop-adapter-preserved c = row_goes_on c.loop-adapter.adapter c.loop-adapter.invariant c.sweep_row.ensures _ c.in_ok-left.was refl

pub returns-in_ok-left : goal.returns-in_ok-left
returns-in_ok-left c = part_done (row_goes_on c.loop-adapter.adapter c.loop-adapter.invariant c.sweep_row.ensures queues c.in_ok-left.was (omega arith))
