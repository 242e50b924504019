-- `zk_raw_fresh` meets its contract.
use Rattle.served.proofs.Laws.{freshened}
use Rattle.c_devices.proofs.zk_raw_fresh.Goals as goal

pub returns : goal.returns
returns c = freshened c.answer_number.ensures c.fresh.ensures
