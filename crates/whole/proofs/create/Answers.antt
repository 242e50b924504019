-- `create` meets its contract.
use Rattle.served.proofs.Laws.{created_as}
use Rattle.whole.proofs.create.Goals as goal

pub returns : goal.returns
returns c = created_as c.answer_number.ensures c.id_of.ensures c.create.ensures
