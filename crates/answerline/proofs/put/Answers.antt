-- `put` meets its contract: there is no room, or the line of the case is written.
use native.Mathlib.Omega.{arith}
use Rattle.errno.specs.Ascii.{ascii}
use Rattle.answerline.specs.Answers.{said_line, command_line}
use Rattle.answerline.proofs.Laws.{put_line}
use Rattle.answerline.proofs.put.Goals.{in-Done, in-Refused, in-Did, in-Used}
use Rattle.answerline.proofs.put.Goals as goal

pub returns : goal.returns
unfolding said_line command_line ascii
returns c = elim c.match-said.branch [
  | in-Done w ↦ rw (w.in-Done.is, w.out-is, w.result-is) (put_line w.last.ensures (omega arith))
  | in-Refused w ↦ rw (w.in-Refused.is, w.out-is, w.result-is) (put_line w.refused.ensures (omega arith))
  | in-Did w ↦ rw (w.in-Did.is, w.out-is, w.result-is) (put_line w.did.ensures (omega arith))
  | in-Used w ↦ rw (w.in-Used.is, w.out-is, w.result-is) (put_line w.used.ensures (omega arith))
]
