-- `refused` meets its contract: the line says the case's name.
use Rattle.std.proofs.Common.{ap, length, arith}
use Rattle.errno.specs.Ascii.{ascii}
use Rattle.answerline.proofs.Laws.{refusal}
use Rattle.answerline.proofs.refused.Goals as goal

pub line-requires : goal.line-requires
line-requires c = omega (arith, ap length c.name.ensures, (refusal c.args.e).1)

pub returns : goal.returns
unfolding ascii
returns c = rw ((refusal c.args.e).0, ← c.name.ensures) c.line.ensures
