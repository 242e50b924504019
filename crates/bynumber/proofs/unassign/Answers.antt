-- `unassign` meets its contract.
use Rattle.served.proofs.Laws.{number_unassigned}
use Rattle.bynumber.proofs.unassign.Goals as goal

pub returns : goal.returns
returns c = number_unassigned c.answer_number.ensures c.id_of.ensures c.unassign.ensures
