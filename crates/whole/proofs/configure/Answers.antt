-- `configure` meets its contract.
use Rattle.served.proofs.Laws.{configured_as}
use Rattle.whole.proofs.configure.Goals as goal

pub returns : goal.returns
returns c = configured_as c.answer_number.ensures c.configuration_of.ensures c.configure.ensures
