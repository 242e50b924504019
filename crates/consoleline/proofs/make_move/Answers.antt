-- `make_move` meets its contract.
use native.Mathlib.Omega.{arith}
use Rattle.answerline.specs.Answers.{said_line}
use Rattle.consoleline.proofs.Laws.{answered_move}
use Rattle.consoleline.proofs.make_move.Goals as goal

pub returns : goal.returns
unfolding said_line
returns c = let a = c.args in
    answered_move a.queue.adapter.0 a.queue.domain.0 a.words.now a.drivers.now _ c.move_queue.result (omega (arith, c)) (omega (arith, c)) c.move_queue.ensures
