-- `said` meets its contract.
use mathlib.Core.Path.{sym, ap}
use Rattle.rules.specs.Commands.{Answer, answered}
use Rattle.answerline.specs.Answers.{said_line, command_line}
use Rattle.consoleline.proofs.said.Goals as goal

pub returns-in-Ok : goal.returns-in-Ok
unfolding said_line
returns-in-Ok c = sym (ap (λ (a : Answer). command_line (answered a)) c.in-Ok.is)

pub returns-in-Err : goal.returns-in-Err
unfolding said_line
returns-in-Err c = sym (ap (λ (a : Answer). command_line (answered a)) c.in-Err.is)
