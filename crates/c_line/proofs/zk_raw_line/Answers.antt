-- `zk_raw_line` meets its contract.
use native.Mathlib.Omega.{arith}
use Rattle.c_line.proofs.Laws.{served}
use Rattle.c_line.proofs.zk_raw_line.Goals as goal

pub returns : goal.returns
returns c = served (omega arith) c.obey-said.ensures c.put.ensures
