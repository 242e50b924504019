-- `assign` meets its contract.
use Rattle.served.proofs.Laws.{assigned_as}
use Rattle.bytext.proofs.assign.Goals as goal

pub returns : goal.returns
returns c = assigned_as c.answer_number.ensures c.id_of.ensures c.assign.ensures
