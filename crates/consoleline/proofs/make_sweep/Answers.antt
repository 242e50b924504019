-- `make_sweep` meets its contract.
use Rattle.rules.specs.Queues.{most_moves}
use Rattle.answerline.specs.Answers.{said_line}
use Rattle.consoleline.proofs.Laws.{answered_sweep}
use Rattle.consoleline.proofs.make_sweep.Goals as goal

pub returns : goal.returns
unfolding said_line
returns c = let a = c.args in
    answered_sweep most_moves a.words.now a.drivers.now _ c.sweep-swept.result c.sweep-swept.ensures
