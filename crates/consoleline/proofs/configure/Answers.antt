-- `configure` meets its contract.
use mathlib.Core.Path.{sym}
use Rattle.errno.specs.Outcome.{outcome}
use Rattle.answerline.specs.Answers.{said_line}
use Rattle.layout.specs.Carried.{memory}
use Rattle.linewords.proofs.Laws.{when_good_lem, when_bad}
use Rattle.consoleline.proofs.Laws.{asked_as, answered_bad, answered_config}
use Rattle.consoleline.proofs.configure.Goals as goal

pub returns-in-Ok : goal.returns-in-Ok
unfolding outcome
returns-in-Ok c =
    asked_as (sym (when_good_lem _ c.in-Ok.ensures)) (answered_config c.in-Ok.configuration c.configure.result c.configure.ensures c.said.ensures)

pub returns-in-Err : goal.returns-in-Err
unfolding outcome said_line
returns-in-Err c = asked_as (sym (when_bad _ c.in-Err.ensures)) (answered_bad _ (memory c.args.words.now c.args.drivers.now))
