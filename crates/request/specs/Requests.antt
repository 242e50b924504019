-- What carrying out one request does.
-- The rules: RULES.md, "Reference model and demand 3".
-- Assumes nothing.
use Rattle.std.specs.Prelude.{ℕ, min, cond, List, [], ◌∷◌, ◌≡◌, eqb}
use Rattle.rules.specs.State.{State, queues}
use Rattle.rules.specs.Queues.{moved_number, move_answer, remaining, most_moves}
use Rattle.rules.specs.Commands.{Answer, answered, errno_of}
use Rattle.layout.specs.Lent.{LentMut}
use Rattle.layout.specs.Carried.{Memory, memory, read, memory_after}
use Rattle.bind.specs.Moves.{move_bytes}
use Rattle.sweep.specs.Sweeps.{sweep_bytes}
use Rattle.model.specs.Steps.{Step, Command, queue_of, rule, after_all}
use Rattle.model.specs.Steps as Steps
use Rattle.model.specs.Sweeps.{sweep_steps}
use Rattle.calls.specs.Calls.{effect, Call}
use Rattle.encoding.specs.Encoding.{Request, command, move, sweep}

-- the steps that a request stands for in a list of demand 3: a sweep stands in it as its moves
unfoldable pub steps_for : Request → State → List Step
steps_for (command c) s = Steps.command c ∷ []
steps_for (move a d) s = Steps.move a d ∷ []
steps_for (sweep b) s = sweep_steps b s

-- the memory after a request, every byte
unfoldable pub leaves : Request → Memory → Memory
leaves (command c) m = memory_after m (rule c (read m)) (effect c m)
leaves (move a d) m = memory m.words (move_bytes m.words (queue_of a d) m.drivers)
leaves (sweep b) m = memory m.words (sweep_bytes m.words queues 0 (min b most_moves) m.drivers)

-- a request's answer as a byte: a command's errno value, 0 for no refusal; a move's answer; whether moves remain after a sweep
unfoldable pub answer_byte : Request → State → ℕ
answer_byte (command c) s = errno_of (rule c s)
answer_byte (move a d) s = moved_number (move_answer (queue_of a d) s)
answer_byte (sweep b) s = cond (eqb (remaining (after_all (sweep_steps b s) s)) 0) 0 1

-- one request, on the memory m, which it leaves as n
pub record Stepped (x : Request) (m n : Memory) (r : ℕ) : Type 0 where
  pub answer : r ≡ answer_byte x (read m)
  pub memory : n ≡ leaves x m
  pub call : (rs : List ℕ) × Call m n (steps_for x (read m)) rs

-- a command is carried out, of lent memory at entry and at exit
abbrev pub Obeyed : Command → LentMut → LentMut → LentMut → LentMut → Answer → Type 0
Obeyed c words words' drivers drivers' r =
    Stepped (command c) (memory words.now drivers.now)
    (memory words'.now drivers'.now) (answered r)
