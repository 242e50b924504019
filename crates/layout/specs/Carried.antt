-- What a call does to the lent memory: the contracts of all functions that can refuse cite this one record.
-- The rules: RULES.md, "Refusals".
-- Assumes nothing.
use Rattle.std.specs.Prelude.{ℕ, List, ◌≡◌}
use Rattle.errno.specs.Outcome.{Outcome, granted, refused}
use Rattle.rules.specs.State.{State}
use Rattle.rules.specs.Commands.{Answer, answered, errno_of, state_after}
use Rattle.layout.specs.Layout.{state_in}
use Rattle.layout.specs.Lent.{LentMut}

-- the memory of a record: its words and its driver bytes
pub record Memory : Type 0 where
  pub words : List ℕ
  pub drivers : List ℕ

abbrev pub memory : List ℕ → List ℕ → Memory
memory ws qs = record { words = ws; drivers = qs }

-- the state that memory holds
abbrev pub read : Memory → State
read m = state_in m.words m.drivers

-- a change of the words alone
abbrev pub on_words : (List ℕ → List ℕ) → Memory → Memory
on_words f m = memory (f m.words) m.drivers

-- the memory after a call, by its outcome: a refusal leaves every byte
unfoldable pub memory_after : Memory → Outcome State → Memory → Memory
memory_after m (granted s) n = n
memory_after m (refused e) n = m

-- A call that follows a rule, on the memory m, which it leaves as n.
pub record Carried (rule : State → Outcome State) (effect : Memory → Memory) (m n : Memory) (r : Answer) : Type 0 where
  -- it answers as the rule does
  pub answer : answered r ≡ errno_of (rule (read m))
  -- the memory, read by the rules, is then as the rule says
  pub state : read n ≡ state_after (read m) (rule (read m))
  -- and these are its bytes
  pub bytes : n ≡ memory_after m (rule (read m)) (effect m)

-- a call that is lent the words alone, whatever the driver bytes are
abbrev pub CarriedWords : (State → Outcome State) → (List ℕ → List ℕ) → List ℕ → List ℕ → Answer → Type 0
CarriedWords rule effect ws vs r = (qs : List ℕ) → Carried rule (on_words effect) (memory ws qs) (memory vs qs) r

-- the same of lent memory at entry and at exit: a function that is lent the words
abbrev pub Obeys : (State → Outcome State) → (List ℕ → List ℕ) → LentMut → LentMut → Answer → Type 0
Obeys rule effect entry exit r = CarriedWords rule effect entry.now exit.now r

-- a function that is lent the words and the drivers
abbrev pub ObeysBoth : (State → Outcome State) → (Memory → Memory) → LentMut → LentMut → LentMut → LentMut → Answer → Type 0
ObeysBoth rule effect words words' drivers drivers' r =
    Carried rule effect (memory words.now drivers.now) (memory words'.now drivers'.now) r
