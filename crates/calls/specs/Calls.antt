-- Calls of the functions that change the memory of a record, chains of such calls from a fresh record, and what holds of
-- every chain.
-- The rules: RULES.md, "Reference model and demand 3".
-- Assumes nothing.
use Rattle.std.specs.Prelude.{ℕ, ◌+◌, ◌*◌, ◌≤◌, ◌<◌, Bool, false, List, [], ◌∷◌, ◌++◌, ◌≡◌}
use Rattle.errno.specs.Outcome.{Outcome}
use Rattle.rules.specs.declared.Configuration.{Configuration}
use Rattle.rules.specs.declared.Id.{Id}
use Rattle.rules.specs.declared.Kind.{Kind}
use Rattle.rules.specs.declared.Moved.{Moved}
use Rattle.rules.specs.State.{Limits, State, fresh}
use Rattle.rules.specs.Queues.{Remaining, most_moves}
use Rattle.rules.specs.Sweeps.{Sweep}
use Rattle.rules.specs.Commands as Commands
use Rattle.rules.specs.Commands.{Answer, answered}
use Rattle.layout.specs.Carried.{Memory, read, on_words, Carried, CarriedWords}
use Rattle.setup.specs.Fresh.{start, fresh_memory}
use Rattle.sweep.specs.declared.Swept.{Swept}
use Rattle.bind.specs.Moves.{Moving}
use Rattle.sweep.specs.Sweeps.{Sweeping}
use Rattle.create.specs.Created.{created}
use Rattle.devices.specs.Effects.{removed, opened, closed}
use Rattle.assign.specs.Numbers.{assigned, unassigned, Assigning}
use Rattle.host.specs.Masks.{with_apmask, with_aqmask}
use Rattle.configure.specs.Configured.{configured}
use Rattle.model.specs.Steps.{Command, create, remove, open_it, close_it, assign, unassign, set_apmask, set_aqmask, configure}
use Rattle.model.specs.Steps.{Step, command, move, commands_of, after_all, answers}
use Rattle.model.specs.Sweeps.{sweep_steps}
use Rattle.model.specs.Model.{Model, kept}
use Rattle.model.specs.Model as Model
use Rattle.model.specs.Demand3.{Demand3, Follows}

-- what an accepted command leaves in memory
unfoldable pub effect : Command → Memory → Memory
effect (create i) = on_words (created i)
effect (remove i) = on_words (removed i)
effect (open_it i) = on_words (opened i)
effect (close_it i) = on_words (closed i)
effect (assign k i text) = on_words (assigned k i text)
effect (unassign k i text) = on_words (unassigned k i text)
effect (set_apmask text) = on_words (with_apmask text)
effect (set_aqmask text) = on_words (with_aqmask text)
effect (configure c) = configured c

-- a call that is lent the words alone: the drivers are as they were
pub record OnWords (rule : State → Outcome State) (change : List ℕ → List ℕ) (m n : Memory) (r : Answer) : Type 0 where
  pub words : CarriedWords rule change m.words n.words r
  pub drivers : n.drivers ≡ m.drivers

-- a call of fresh with limits a and d
abbrev pub Freshened : ℕ → ℕ → Memory → Memory → Answer → Type 0
Freshened a d m n r = Carried (start a d) (λ k. fresh_memory a d) m n r

-- A call on the memory m, which it leaves as n: a case for each function of the service that changes memory, with what its
-- contract promises, the steps that it stands for in a list, and its answers to commands.
pub data Call : Memory → Memory → List Step → List ℕ → Type 0 where
  fresh_refused : {m n : Memory} (a d : ℕ) (r : Answer) → Freshened a d m n r → (answered r ≡ 0 → ⊥) → Call m n [] []
  creates : {m n : Memory} (i : Id) (r : Answer) → OnWords (Commands.create i) (created i) m n r
      → Call m n (command (create i) ∷ []) (answered r ∷ [])
  removes : {m n : Memory} (i : Id) (r : Answer) → OnWords (Commands.remove i) (removed i) m n r
      → Call m n (command (remove i) ∷ []) (answered r ∷ [])
  opens : {m n : Memory} (i : Id) (r : Answer) → OnWords (Commands.open_device i) (opened i) m n r
      → Call m n (command (open_it i) ∷ []) (answered r ∷ [])
  closes : {m n : Memory} (i : Id) (r : Answer) → OnWords (Commands.close_device i) (closed i) m n r
      → Call m n (command (close_it i) ∷ []) (answered r ∷ [])
  assigns : {m n : Memory} (k : Kind) (i : Id) (text : List ℕ) (r : Answer)
      → Assigning k i text m.words n.words r → n.drivers ≡ m.drivers
      → Call m n (command (assign k i text) ∷ []) (answered r ∷ [])
  unassigns : {m n : Memory} (k : Kind) (i : Id) (text : List ℕ) (r : Answer)
      → OnWords (Commands.unassign k i text) (unassigned k i text) m n r
      → Call m n (command (unassign k i text) ∷ []) (answered r ∷ [])
  sets_apmask : {m n : Memory} (text : List ℕ) (r : Answer) → OnWords (Commands.set_apmask text) (with_apmask text) m n r
      → Call m n (command (set_apmask text) ∷ []) (answered r ∷ [])
  sets_aqmask : {m n : Memory} (text : List ℕ) (r : Answer) → OnWords (Commands.set_aqmask text) (with_aqmask text) m n r
      → Call m n (command (set_aqmask text) ∷ []) (answered r ∷ [])
  configures : {m n : Memory} (c : Configuration) (r : Answer) → Carried (Commands.configure c) (configured c) m n r
      → Call m n (command (configure c) ∷ []) (answered r ∷ [])
  moves : {m n : Memory} (a d : ℕ) (r : Moved) → a < 256 → d < 256
      → Moving (a * 256 + d) m.words m.drivers n.drivers r → n.words ≡ m.words
      → Call m n (move a d ∷ []) []
  sweeps : {m n : Memory} (b : ℕ) (r : Swept) → Sweeping b m.words m.drivers n.drivers r → n.words ≡ m.words
      → Call m n (sweep_steps b (read m)) []

-- A chain of calls: an accepted fresh on any memory, then any calls, each on the memory that the one before left.
pub data Chain : Limits → Memory → List Step → List ℕ → Type 0 where
  begins : {m n : Memory} (a d : ℕ) (r : Answer) → Freshened a d m n r → answered r ≡ 0
      → Chain (record { adapter = a; domain = d }) n [] []
  goes_on : {l : Limits} {m n : Memory} {xs ys : List Step} {rs ss : List ℕ} → Chain l m xs rs → Call m n ys ss
      → Chain l n (xs ++ ys) (rs ++ ss)

-- the reference model fed with the commands of a list
abbrev pub model_of : Limits → List Step → Model
model_of l steps = kept (commands_of steps) (Model.start l.adapter l.domain)

-- What holds of the memory that a chain leaves.
pub record Demanded (l : Limits) (m : Memory) (steps : List Step) (rs : List ℕ) : Type 0 where
  -- read by the rules, it is what the rules make of the list
  pub state : read m ≡ after_all steps (fresh l)
  -- the answers are those of the rules
  pub said : rs ≡ answers steps (fresh l)
  -- demand 3 holds of it
  pub demand : Demand3 l steps (read m)
  -- and part 4 follows from what a caller sees: no move remains, a sweep says so, or its budget was full
  pub none : (r : ℕ) → Remaining (read m) r → r ≡ 0 → Follows (read m) (model_of l steps)
  pub swept : (b : ℕ) (s : State) (used : ℕ) (more : Bool) → Sweep b s (read m) used more → more ≡ false
      → Follows (read m) (model_of l steps)
  pub full : (b : ℕ) (s : State) (used : ℕ) (more : Bool) → Sweep b s (read m) used more → most_moves ≤ b
      → Follows (read m) (model_of l steps)
