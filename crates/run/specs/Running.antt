-- What carrying out a list of requests does: demand 3 as the contract of running code.
-- The rules: RULES.md, "Reference model and demand 3".
-- Assumes nothing.
use Rattle.std.specs.Prelude.{ℕ, List, [], ◌∷◌, ◌++◌, ◌≡◌, length, drop}
use Rattle.rules.specs.State.{Limits, State, fresh}
use Rattle.mask.specs.declared.Apid.{Apid}
use Rattle.mask.specs.declared.Apqi.{Apqi}
use Rattle.layout.specs.Lent.{Lent, LentMut}
use Rattle.layout.specs.Carried.{Memory, memory, read}
use Rattle.setup.specs.Fresh.{fresh_memory}
use Rattle.model.specs.Steps.{Step, after_all}
use Rattle.model.specs.Steps as Steps
use Rattle.calls.specs.Calls.{Chain, Demanded}
use Rattle.encoding.specs.Encoding.{Request, request_of, decode}
use Rattle.request.specs.Requests.{steps_for, leaves, answer_byte, Stepped}

-- the steps of some requests, one after the other
unfoldable pub steps_of : List Request → State → List Step
steps_of [] s = []
steps_of (x ∷ xs) s = steps_for x s ++ steps_of xs (after_all (steps_for x s) s)

-- the memory after some requests
unfoldable pub leaves_all : List Request → Memory → Memory
leaves_all [] m = m
leaves_all (x ∷ xs) m = leaves_all xs (leaves x m)

-- the answers to some requests
unfoldable pub answer_bytes : List Request → State → List ℕ
answer_bytes [] s = []
answer_bytes (x ∷ xs) s = answer_byte x s ∷ answer_bytes xs (after_all (steps_for x s) s)

-- a chain that comes to the memory m goes on to n, by calls that stand for these steps
unfoldable pub GoesOn : Memory → Memory → List Step → Type 0
GoesOn m n steps =
    (l : Limits) (xs : List Step) (rs : List ℕ) → Chain l m xs rs → (ss : List ℕ) × Chain l n (xs ++ steps) (rs ++ ss)

-- The requests in `bytes` are carried out on the memory m, which is left as n, with room for answers in `before`, which is left
-- as `after`: as many requests as there is room for answers.
pub record CarriedOut (bytes before after : List ℕ) (m n : Memory) (r : ℕ) : Type 0 where
  -- the number of requests that were carried out
  pub number : r ≡ length (decode (length before) bytes)
  -- the answers, in order; the rest of the buffer is as it was
  pub answers : after ≡ answer_bytes (decode (length before) bytes) (read m) ++ drop r before
  -- the memory, every byte
  pub memory : n ≡ leaves_all (decode (length before) bytes) m
  -- it was left by calls
  pub calls : GoesOn m n (steps_of (decode (length before) bytes) (read m))

-- the list of demand 3 that a run of the requests in `bytes` comes to, and the answers to its commands
abbrev pub list_of : Limits → List ℕ → List ℕ → List Step
list_of l before bytes = steps_of (decode (length before) bytes) (fresh l)

abbrev pub said_to : Limits → List ℕ → List ℕ → List ℕ
said_to l before bytes = Steps.answers (list_of l before bytes) (fresh l)

-- A run of the requests in `bytes` on a fresh record of limits l, which is left in the memory m.
pub record Run (l : Limits) (bytes before after : List ℕ) (m : Memory) (r : ℕ) : Type 0 where
  pub number : r ≡ length (decode (length before) bytes)
  pub answers : after ≡ answer_bytes (decode (length before) bytes) (fresh l) ++ drop r before
  pub memory : m ≡ leaves_all (decode (length before) bytes) (fresh_memory l.adapter l.domain)
  -- the memory was left by a chain of calls from a fresh record, so demand 3 holds of it
  pub chain : Chain l m (list_of l before bytes) (said_to l before bytes)
  pub demand : Demanded l m (list_of l before bytes) (said_to l before bytes)

-- the same of lent memory at entry and at exit
abbrev pub StepsOnce : Lent → LentMut → LentMut → LentMut → LentMut → ℕ → Type 0
StepsOnce bytes words words' drivers drivers' r =
    Stepped (request_of bytes.now) (memory words.now drivers.now) (memory words'.now drivers'.now) r

abbrev pub CarriesOut : Lent → LentMut → LentMut → LentMut → LentMut → LentMut → LentMut → ℕ → Type 0
CarriesOut steps before after words words' drivers drivers' r =
    CarriedOut steps.now before.now after.now (memory words.now drivers.now) (memory words'.now drivers'.now) r

abbrev pub Runs : Apid → Apqi → Lent → LentMut → LentMut → LentMut → LentMut → ℕ → Type 0
Runs a d steps before after words' drivers' r =
    Run (record { adapter = a.0; domain = d.0 }) steps.now before.now after.now (memory words'.now drivers'.now) r
