-- `close` meets its contract.
use Rattle.served.proofs.Laws.{closed_as}
use Rattle.whole.proofs.close.Goals as goal

pub returns : goal.returns
returns c = closed_as c.answer_number.ensures c.id_of.ensures c.close.ensures
