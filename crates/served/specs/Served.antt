-- What a caller in C is promised of the functions that write a record. Each promise has the call as a case of a chain, so
-- `demanded` (calls) holds of whoever calls them in a row.
-- Assumes nothing.
use Rattle.std.specs.Prelude.{ℕ, ◌+◌, ◌*◌, List, [], ◌≡◌}
use denote.Triple.Both.{Both}
use Rattle.rules.specs.declared.Id.{Id}
use Rattle.rules.specs.declared.Kind.{Kind}
use Rattle.rules.specs.Commands.{Answer, answered, unassign_number}
use Rattle.rules.specs.Refusals.{RefusedExactly}
use Rattle.fields.specs.Fields.{id_of}
use Rattle.layout.specs.Layout.{limits_in, host_in, device_in}
use Rattle.layout.specs.Lent.{Lent, LentMut}
use Rattle.layout.specs.Carried.{Memory, memory, read, CarriedWords}
use Rattle.assignnumber.specs.Numbers.{AssigningNumber, unassigned_from}
use Rattle.assign.specs.Numbers.{text_of}
use Rattle.sweep.specs.Sweeps.{Sweeping}
use Rattle.model.specs.Steps.{Command, assign, unassign}
use Rattle.model.specs.Sweeps.{sweep_steps}
use Rattle.calls.specs.Calls.{Freshened, Call, Chain}
use Rattle.encoding.specs.Encoding.{command, move}
use Rattle.request.specs.Requests.{Stepped}
use Rattle.shown.specs.Shown.{LentNumber, SweepLeft}

-- r is the errno value of an answer that `promise` holds of; 0 is no refusal
pub record Numbered (promise : Answer → Type 0) (r : ℕ) : Type 0 where
  pub outcome : Answer
  pub kept : promise outcome
  pub numbered : r ≡ answered outcome

-- the id that is lent
abbrev pub id_in : Lent → Id
id_in bytes = id_of bytes.now

-- the queue of an adapter and a domain
abbrev pub queue_with : ℕ → ℕ → ℕ
queue_with apid apqi = apid * 256 + apqi

-- ---- on the memory m, which is left as n

-- fresh: accepted, a chain begins; refused, the call is one of a chain that goes on
pub record FreshServed (a d : ℕ) (m n : Memory) (r : ℕ) : Type 0 where
  pub made : Numbered (Freshened a d m n) r
  pub begins : r ≡ 0 → Chain (record { adapter = a; domain = d }) n [] []
  pub refused : (r ≡ 0 → ⊥) → Call m n [] []

-- assigning the number of a text, with demand 2's sentence
pub record AssignServed (k : Kind) (i : Id) (text : List ℕ) (m n : Memory) (r : ℕ) : Type 0 where
  pub step : Stepped (command (assign k i text)) m n r
  pub exactly : Numbered (RefusedExactly k i text (limits_in m.words) (host_in m.words) (device_in m.words)) r

-- assigning a number, by the rule of a number; in a chain it stands as a text
pub record NumberAssigned (k : Kind) (i : Id) (x : ℕ) (m n : Memory) (r : ℕ) : Type 0 where
  pub rule : Numbered (AssigningNumber k i x m.words n.words) r
  pub step : Stepped (command (assign k i (text_of x))) m n r

-- unassigning a number
pub record NumberUnassigned (k : Kind) (i : Id) (x : ℕ) (m n : Memory) (r : ℕ) : Type 0 where
  pub rule : Numbered (CarriedWords (unassign_number k i x) (unassigned_from k i x) m.words n.words) r
  pub step : Stepped (command (unassign k i (text_of x))) m n r

-- a sweep with a budget: r is the moves used, and 1 or 0 is left for whether any remain
pub record SweepServed (b : ℕ) (m n : Memory) (more r : ℕ) : Type 0 where
  pub left : SweepLeft (Sweeping b m.words m.drivers n.drivers) more r
  pub words : n.words ≡ m.words
  pub call : Call m n (sweep_steps b (read m)) []

-- ---- the same of lent memory

-- what is lent to be changed, at entry and at exit
abbrev pub Lending : Type 0
Lending = Both LentMut LentMut

abbrev pub entering : Lending → Lending → Memory
entering words drivers = memory words.entry.now drivers.entry.now

abbrev pub leaving : Lending → Lending → Memory
leaving words drivers = memory words.exit.now drivers.exit.now

abbrev pub FreshServes : ℕ → ℕ → Lending → Lending → ℕ → Type 0
FreshServes a d words drivers r = FreshServed a d (entering words drivers) (leaving words drivers) r

-- a command: its answer, every byte, and the call
abbrev pub Serves : Command → Lending → Lending → ℕ → Type 0
Serves x words drivers r = Stepped (command x) (entering words drivers) (leaving words drivers) r

abbrev pub AssignServes : Kind → Id → Lent → Lending → Lending → ℕ → Type 0
AssignServes k i text words drivers r = AssignServed k i text.now (entering words drivers) (leaving words drivers) r

abbrev pub UnassignServes : Kind → Id → Lent → Lending → Lending → ℕ → Type 0
UnassignServes k i text words drivers r = Serves (unassign k i text.now) words drivers r

abbrev pub NumberAssigns : Kind → Id → ℕ → Lending → Lending → ℕ → Type 0
NumberAssigns k i x words drivers r = NumberAssigned k i x (entering words drivers) (leaving words drivers) r

abbrev pub NumberUnassigns : Kind → Id → ℕ → Lending → Lending → ℕ → Type 0
NumberUnassigns k i x words drivers r = NumberUnassigned k i x (entering words drivers) (leaving words drivers) r

-- a move of the queue of an adapter and a domain, of words that are only read: what it did, every byte, and the call
abbrev pub MoveServes : ℕ → ℕ → Lent → Lending → ℕ → Type 0
MoveServes a d words drivers r =
    Stepped (move a d) (memory words.now drivers.entry.now) (memory words.now drivers.exit.now) r

abbrev pub SweepServes : ℕ → Lent → Lending → LentNumber → ℕ → Type 0
SweepServes b words drivers more r =
    SweepServed b (memory words.now drivers.entry.now) (memory words.now drivers.exit.now) more.now r
