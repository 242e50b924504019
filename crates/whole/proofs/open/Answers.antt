-- `open` meets its contract.
use Rattle.served.proofs.Laws.{opened_as}
use Rattle.whole.proofs.open.Goals as goal

pub returns : goal.returns
returns c = opened_as c.answer_number.ensures c.id_of.ensures c.«open».ensures
