-- `fill` meets its contract.
use Rattle.std.proofs.Common.{◌∙◌, arith}
use Rattle.copy.proofs.Laws.{copied_all}
use Rattle.answerline.proofs.fill.Goals as goal

pub returns : goal.returns
returns c = c.copy.ensures ∙ copied_all c.args.room.now c.args.bytes.now (omega arith)
