-- `set_aqmask` meets its contract.
use Rattle.served.proofs.Laws.{aqmask_as}
use Rattle.whole.proofs.set_aqmask.Goals as goal

pub returns : goal.returns
returns c = aqmask_as c.answer_number.ensures c.set_aqmask.ensures
