-- `did` meets its contract: the line says the move's word.
use Rattle.std.proofs.Common.{ap, length, arith}
use Rattle.errno.specs.Ascii.{ascii}
use Rattle.answerline.specs.Answers.{move_line}
use Rattle.answerline.proofs.Laws.{word_short}
use Rattle.answerline.proofs.did.Goals as goal

pub line-requires : goal.line-requires
line-requires c = omega (arith, ap length c.word.ensures, word_short c.args.m)

pub returns : goal.returns
unfolding ascii move_line
returns c = rw (← c.word.ensures) c.line.ensures
