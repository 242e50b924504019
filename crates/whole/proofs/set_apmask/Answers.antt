-- `set_apmask` meets its contract.
use Rattle.served.proofs.Laws.{apmask_as}
use Rattle.whole.proofs.set_apmask.Goals as goal

pub returns : goal.returns
returns c = apmask_as c.answer_number.ensures c.set_apmask.ensures
