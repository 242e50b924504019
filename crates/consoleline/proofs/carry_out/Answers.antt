-- `carry_out` meets its contract.
use mathlib.Core.Path.{◌≡◌, ap}
use Rattle.std.proofs.Common.{rules}
use Rattle.std.specs.Prelude.{Ok}
use Rattle.linewords.specs.declared.Request.TheVariants.{Command, Config, Move, Sweep}
use Rattle.layout.specs.Carried.{memory}
use Rattle.answerline.specs.Answers.{said_line}
use Rattle.linewords.specs.Asked.{asked}
use Rattle.consoleline.proofs.Laws.{asked_as, answered_bad}
use Rattle.consoleline.proofs.carry_out.Goals as goal

pub returns-in-Ok-Command : goal.returns-in-Ok-Command
unfolding asked
returns-in-Ok-Command c = let e : c.args.read ≡ Ok (Command c.in-Ok-Command.c) = search rules in asked_as (ap asked e) c.command.ensures

pub returns-in-Ok-Config : goal.returns-in-Ok-Config
unfolding asked
returns-in-Ok-Config c = let e : c.args.read ≡ Ok (Config c.in-Ok-Config.text) = search rules in asked_as (ap asked e) c.configure.ensures

pub returns-in-Ok-Move : goal.returns-in-Ok-Move
unfolding asked
returns-in-Ok-Move c = let e : c.args.read ≡ Ok (Move c.in-Ok-Move.queue) = search rules in asked_as (ap asked e) c.make_move.ensures

pub returns-in-Ok-Sweep : goal.returns-in-Ok-Sweep
unfolding asked
returns-in-Ok-Sweep c = let e : c.args.read ≡ Ok Sweep = search rules in asked_as (ap asked e) c.make_sweep.ensures

pub returns-in-Err : goal.returns-in-Err
unfolding asked said_line
returns-in-Err c = asked_as (ap asked c.in-Err.is) (answered_bad _ (memory c.args.words.now c.args.drivers.now))
