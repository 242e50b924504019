-- Each queue that the loop passes is unbound, if its domain is among them.
use Rattle.std.proofs.Common.{arith}
use Rattle.unbind.proofs.Laws.{row_nothing, row_next}
use Rattle.unbind.proofs.unbind_domains.Goals as goal

pub loop-n-init : goal.loop-n-init
loop-n-init c = search (row_nothing)

pub loop-n-preserved : goal.loop-n-preserved
loop-n-preserved c = row_next _ _ _ _ _ c.loop-n.invariant c.unbind_one.ensures (omega arith)
