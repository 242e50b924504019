-- A whole input of the console (RULES.md, "Console"): all input bytes to all output bytes and to the memory that is left.
-- Assumes nothing.
use Rattle.std.specs.Prelude.{ℕ, List, [], ◌∷◌, ◌++◌, map, ◌≡◌, take}
use Rattle.errno.specs.Outcome.{Outcome, granted, refused}
use Rattle.rules.specs.State.{Limits, State, fresh}
use Rattle.layout.specs.Carried.{Memory, read}
use Rattle.setup.specs.Fresh.{fresh_memory}
use Rattle.model.specs.Steps.{Command, Step, after_all}
use Rattle.model.specs.Steps as Steps
use Rattle.model.specs.Model.{start, replies}
use Rattle.calls.specs.Calls.{Chain, Demanded}
use Rattle.encoding.specs.Encoding.{Request, command, move, sweep}
use Rattle.run.specs.Running.{steps_of, leaves_all}
use Rattle.answerline.specs.Answers.{command_line}
use Rattle.split.specs.Cut.{cut}
use Rattle.linetext.specs.Lines.{line_request}
use Rattle.consoleline.specs.Answering.{answer_for, after_for}

-- ---- the lines of an input

-- the pieces that a newline ended: all but the last
unfoldable pub finished : List (List ℕ) → List (List ℕ)
finished [] = []
finished (l ∷ []) = []
finished (l ∷ m ∷ ls) = l ∷ finished (m ∷ ls)

-- the last piece, which no newline ended
unfoldable pub unfinished : List (List ℕ) → List ℕ
unfinished [] = []
unfinished (l ∷ []) = l
unfinished (l ∷ m ∷ ls) = unfinished (m ∷ ls)

-- a last line without a newline counts unless it is empty
unfoldable pub last_line : List ℕ → List (List ℕ)
last_line [] = []
last_line (x ∷ xs) = (x ∷ xs) ∷ []

-- the lines that some bytes have ended
abbrev pub ended_in : List ℕ → List (List ℕ)
ended_in bytes = finished (cut 10 bytes)

-- the line that they have begun
abbrev pub begun_in : List ℕ → List ℕ
begun_in bytes = unfinished (cut 10 bytes)

-- the lines of a whole input
unfoldable pub lines_of : List ℕ → List (List ℕ)
lines_of input = ended_in input ++ last_line (begun_in input)

-- what lines are read as: requests, or bad text
abbrev pub read_as : List (List ℕ) → List (Outcome Request)
read_as ls = map line_request ls

-- ---- what is answered, and what is done

-- the answer lines to lines that are read so, in order
unfoldable pub answers_to : List (Outcome Request) → State → List (List ℕ)
answers_to [] s = []
answers_to (o ∷ os) s = answer_for o s ∷ answers_to os (after_for o s)

-- lines one after the other
unfoldable pub joined : List (List ℕ) → List ℕ
joined [] = []
joined (l ∷ ls) = l ++ joined ls

-- the output
abbrev pub output_of : List (Outcome Request) → State → List ℕ
output_of os s = joined (answers_to os s)

-- the requests: bad text is none
unfoldable pub requests_of : List (Outcome Request) → List Request
requests_of [] = []
requests_of (granted x ∷ os) = x ∷ requests_of os
requests_of (refused e ∷ os) = requests_of os

-- the steps of demand 3 that they stand for: a sweep stands in them as its moves
abbrev pub steps_of_lines : List (Outcome Request) → State → List Step
steps_of_lines os s = steps_of (requests_of os) s

-- the commands among requests
unfoldable pub commands_in : List (Outcome Request) → List Command
commands_in [] = []
commands_in (granted (command c) ∷ os) = c ∷ commands_in os
commands_in (granted (move a d) ∷ os) = commands_in os
commands_in (granted (sweep b) ∷ os) = commands_in os
commands_in (refused e ∷ os) = commands_in os

-- an answer is picked where it is to a command
unfoldable pub pick : Outcome Request → List ℕ → List (List ℕ) → List (List ℕ)
pick (granted (command c)) a rest = a ∷ rest
pick (granted (move p q)) a rest = rest
pick (granted (sweep b)) a rest = rest
pick (refused e) a rest = rest

-- of answer lines, those to commands
unfoldable pub to_commands : List (Outcome Request) → List (List ℕ) → List (List ℕ)
to_commands [] rest = []
to_commands (o ∷ os) [] = []
to_commands (o ∷ os) (a ∷ rest) = pick o a (to_commands os rest)

-- Lines that were carried out on a fresh record of limits l: the output, the memory that is left, and demand 3 of it.
pub record Played (l : Limits) (os : List (Outcome Request)) (out : List ℕ) (m : Memory) : Type 0 where
  pub output : out ≡ output_of os (fresh l)
  -- every byte
  pub memory : m ≡ leaves_all (requests_of os) (fresh_memory l.adapter l.domain)
  -- it was left by a chain of calls from a fresh record, so demand 3 holds of it
  pub chain : Chain l m (steps_of_lines os (fresh l)) (Steps.answers (steps_of_lines os (fresh l)) (fresh l))
  pub demand : Demanded l m (steps_of_lines os (fresh l)) (Steps.answers (steps_of_lines os (fresh l)) (fresh l))
  -- the answer lines to the commands are those of the reference model, which is fed the commands alone
  pub model : to_commands os (answers_to os (fresh l)) ≡ map command_line (replies (commands_in os) (start l.adapter l.domain))

-- ---- a whole input: its lines are carried out in order, a long one as bad text, the last one unless it is empty

-- all its output
unfoldable pub output : Limits → List ℕ → List ℕ
output l input = output_of (read_as (lines_of input)) (fresh l)

-- the state after it
unfoldable pub last_state : Limits → List ℕ → State
last_state l input = after_all (steps_of_lines (read_as (lines_of input)) (fresh l)) (fresh l)

-- A whole input was carried out on a fresh record of limits l.
pub record Whole (l : Limits) (input out : List ℕ) (m : Memory) : Type 0 where
  pub bytes : out ≡ output l input
  pub state : read m ≡ last_state l input
  -- every byte of the record, and demand 3
  pub played : Played l (read_as (lines_of input)) out m

-- the most that is kept of a line that no newline has ended: enough to tell that it is too long
abbrev pub most_kept : ℕ
most_kept = 1025

unfoldable pub kept : List ℕ → List ℕ
kept l = take most_kept l

-- Some bytes of an input were taken: the lines that they ended are carried out, and what they began is kept.
pub record Taken (l : Limits) (input out : List ℕ) (m : Memory) (held : List ℕ) : Type 0 where
  pub played : Played l (read_as (ended_in input)) out m
  pub begun : held ≡ kept (begun_in input)
