-- `command` meets its contract.
use Rattle.consoleline.proofs.Laws.{answered_command}
use Rattle.consoleline.proofs.command.Goals as goal

pub returns : goal.returns
returns c = answered_command c.command.result c.command.ensures c.said.ensures
