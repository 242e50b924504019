-- Lists of commands and moves, and what the service's rules make of them, step by step.
-- The rules: RULES.md, "Reference model and demand 3".
-- Assumes nothing.
use Rattle.std.specs.Prelude.{ℕ, ◌+◌, ◌*◌, ◌%◌, List, [], ◌∷◌}
use Rattle.errno.specs.Outcome.{Outcome}
use Rattle.rules.specs.declared.Id.{Id}
use Rattle.rules.specs.declared.Kind.{Kind}
use Rattle.rules.specs.declared.Configuration.{Configuration}
use Rattle.rules.specs.State.{State}
use Rattle.rules.specs.Queues as Queues
use Rattle.rules.specs.Commands as Commands
use Rattle.rules.specs.Commands.{errno_of, state_after}

-- a command, with its arguments
pub data Command : Type 0 where
  create : Id → Command
  remove : Id → Command
  open_it : Id → Command
  close_it : Id → Command
  assign : Kind → Id → List ℕ → Command
  unassign : Kind → Id → List ℕ → Command
  set_apmask : List ℕ → Command
  set_aqmask : List ℕ → Command
  configure : Configuration → Command

-- a step of a list: a command, or a move of the queue of an APID and an APQI
pub data Step : Type 0 where
  command : Command → Step
  move : ℕ → ℕ → Step

-- the queue of an APID and an APQI, each 0 to 255
unfoldable pub queue_of : ℕ → ℕ → ℕ
queue_of a d = a % 256 * 256 + d % 256

-- the commands of a list, in order
unfoldable pub commands_of : List Step → List Command
commands_of [] = []
commands_of (command c ∷ steps) = c ∷ commands_of steps
commands_of (move a d ∷ steps) = commands_of steps

-- a command's rule
unfoldable pub rule : Command → State → Outcome State
rule (create i) s = Commands.create i s
rule (remove i) s = Commands.remove i s
rule (open_it i) s = Commands.open_device i s
rule (close_it i) s = Commands.close_device i s
rule (assign k i text) s = Commands.assign k i text s
rule (unassign k i text) s = Commands.unassign k i text s
rule (set_apmask text) s = Commands.set_apmask text s
rule (set_aqmask text) s = Commands.set_aqmask text s
rule (configure c) s = Commands.configure c s

-- the state after a step
unfoldable pub after : Step → State → State
after (command c) s = state_after s (rule c s)
after (move a d) s = Queues.move (queue_of a d) s

-- the state after a list
unfoldable pub after_all : List Step → State → State
after_all [] s = s
after_all (x ∷ xs) s = after_all xs (after x s)

-- the answers to the commands of a list: errno values, 0 where there is no refusal
unfoldable pub answers : List Step → State → List ℕ
answers [] s = []
answers (command c ∷ xs) s = errno_of (rule c s) ∷ answers xs (state_after s (rule c s))
answers (move a d ∷ xs) s = answers xs (Queues.move (queue_of a d) s)
