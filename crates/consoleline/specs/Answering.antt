-- What is answered to a line of the console, and what it does (RULES.md, "Console").
-- Assumes nothing.
use Rattle.std.specs.Prelude.{ℕ, List, [], ◌≡◌, length}
use Rattle.errno.specs.Outcome.{Outcome, granted, refused}
use Rattle.errno.specs.Errno.{number_of}
use Rattle.rules.specs.State.{State}
use Rattle.rules.specs.Queues.{move_answer}
use Rattle.rules.specs.Commands.{errno_of}
use Rattle.rules.specs.Sweeps.{swept}
use Rattle.layout.specs.Carried.{Memory, read}
use Rattle.model.specs.Steps.{Step, queue_of, rule, after_all}
use Rattle.encoding.specs.Encoding.{Request, command, move, sweep}
use Rattle.request.specs.Requests.{steps_for, leaves}
use Rattle.run.specs.Running.{GoesOn}
use Rattle.served.specs.Served.{Lending, entering, leaving}
use Rattle.answerline.specs.declared.Said.{Said}
use Rattle.answerline.specs.Answers.{command_line, move_line, sweep_line, said_line}
use Rattle.linetext.specs.Lines.{line_request}

-- the answer line to a request
unfoldable pub answer_to : Request → State → List ℕ
answer_to (command c) s = command_line (errno_of (rule c s))
answer_to (move a d) s = move_line (move_answer (queue_of a d) s)
answer_to (sweep b) s = sweep_line (length (swept b s))

-- the answer line to what a line asks for, or to bad text
unfoldable pub answer_for : Outcome Request → State → List ℕ
answer_for (granted x) s = answer_to x s
answer_for (refused e) s = command_line (number_of e)

-- the steps that it stands for in a list of demand 3: bad text for none
unfoldable pub steps_in : Outcome Request → State → List Step
steps_in (granted x) s = steps_for x s
steps_in (refused e) s = []

-- the state after it
unfoldable pub after_for : Outcome Request → State → State
after_for o s = after_all (steps_in o s) s

-- the memory that it leaves, every byte
unfoldable pub leaves_in : Outcome Request → Memory → Memory
leaves_in (granted x) m = leaves x m
leaves_in (refused e) m = m

-- the answer line to a line, its newline included
unfoldable pub answer_line : List ℕ → State → List ℕ
answer_line line s = answer_for (line_request line) s

-- the state after a line
unfoldable pub after_line : List ℕ → State → State
after_line line s = after_for (line_request line) s

-- What was asked for is carried out on the memory m, which is left as n, and answered by a line.
pub record Answered (o : Outcome Request) (m n : Memory) (line : List ℕ) : Type 0 where
  pub answer : line ≡ answer_for o (read m)
  pub state : read n ≡ after_for o (read m)
  -- every byte
  pub memory : n ≡ leaves_in o m
  -- it was done by calls, so a chain that comes to m goes on
  pub calls : GoesOn m n (steps_in o (read m))

-- the same of lent memory
abbrev pub Answers : Outcome Request → Lending → Lending → Said → Type 0
Answers o words drivers r = Answered o (entering words drivers) (leaving words drivers) (said_line r)
