-- Each adapter's queues that the loop passes are unbound, where they are configured no more.
use Rattle.std.proofs.Common.{arith}
use Rattle.unbind.proofs.Laws.{unbind_nothing, unbind_next}
use Rattle.unbind.proofs.unbind.Goals as goal

pub loop-adapter-init : goal.loop-adapter-init
loop-adapter-init c = search (unbind_nothing)

pub loop-adapter-preserved : goal.loop-adapter-preserved
loop-adapter-preserved c = unbind_next _ _ c.loop-adapter.adapter _ c.loop-adapter.invariant c.unbind_row.ensures (omega arith)

pub returns-2 : goal.returns-2
returns-2 c = unbind_next _ _ c.loop-adapter.adapter _ c.loop-adapter.invariant c.unbind_row.ensures (omega arith)
