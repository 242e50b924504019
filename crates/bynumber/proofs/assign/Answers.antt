-- `assign` meets its contract.
use Rattle.served.proofs.Laws.{number_assigned}
use Rattle.bynumber.proofs.assign.Goals as goal

pub returns : goal.returns
returns c = number_assigned c.answer_number.ensures c.id_of.ensures c.assign.ensures
