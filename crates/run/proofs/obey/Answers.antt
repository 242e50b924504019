-- `obey` meets its contract: the command of the parts of the header, and the payload.
use Rattle.run.proofs.Laws.{of_parts}
use Rattle.run.proofs.obey.Goals as goal

pub returns : goal.returns
returns c =
    let s = c in
    of_parts s.args.bytes.now c.command.result s.requires.1 c.kind_of-kind.ensures
    c.id_of-id.ensures c.command_of-command.ensures c.answer_number.ensures c.command.ensures
