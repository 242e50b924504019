-- `remove` meets its contract.
use Rattle.served.proofs.Laws.{removed_as}
use Rattle.whole.proofs.remove.Goals as goal

pub returns : goal.returns
returns c = removed_as c.answer_number.ensures c.id_of.ensures c.remove.ensures
