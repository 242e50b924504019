-- `unassign` meets its contract.
use Rattle.served.proofs.Laws.{unassigned_as}
use Rattle.bytext.proofs.unassign.Goals as goal

pub returns : goal.returns
returns c = unassigned_as c.answer_number.ensures c.id_of.ensures c.unassign.ensures
