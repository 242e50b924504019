-- `sweep` meets its contract: the moves suffice, or do not.
use native.Mathlib.Omega.{arith}
use Rattle.sweep.proofs.Laws.{left_at_most, swept_all, swept_short}
use Rattle.sweep.proofs.sweep.Goals as goal

pub overflow_sub-result : goal.overflow_sub-result
overflow_sub-result c = left_at_most c.args.budget c.sweep_rows.ensures (omega arith) (omega (arith, c.min-most.ensures)) c.in-Some.is

pub returns-in-Some : goal.returns-in-Some
returns-in-Some c = swept_all c.args.budget c.sweep_rows.ensures (omega arith) (omega (arith, c.min-most.ensures)) c.in-Some.is

pub returns-in-None : goal.returns-in-None
returns-in-None c = swept_short c.args.budget c.sweep_rows.ensures (omega arith) (omega (arith, c.min-most.ensures)) c.in-None.is
