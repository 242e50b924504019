-- `zk_raw_sweep` meets its contract.
use Rattle.served.proofs.Laws.{swept_as}
use Rattle.c_queues.proofs.zk_raw_sweep.Goals as goal

pub returns : goal.returns
returns c = swept_as c.sweep.ensures
