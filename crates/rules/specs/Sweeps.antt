-- A sweep as the moves that it makes, in order (RULES.md, "Moves").
-- Assumes nothing.
use Rattle.std.specs.Prelude.{ℕ, zero, suc, ◌+◌, ◌-◌, ◌≤◌, min, Bool, false, not, List, [], ◌∷◌, ◌++◌, ◌≡◌, ◌↔◌, length, replicate, eqb}
use Rattle.rules.specs.declared.Moved.TheVariants.{Idle}
use Rattle.rules.specs.State.{State, queues}
use Rattle.rules.specs.Queues.{due_at, move, moves, move_answer, most_moves, moves_used, remaining, Settled}

-- the queues that a sweep of the n queues from k on with b moves to make moves: by ascending queue, each finished before the next
unfoldable pub swept_from : ℕ → ℕ → ℕ → State → List ℕ
swept_from zero k b s = []
swept_from (suc n) k b s =
    replicate (min b (due_at s k)) k ++ swept_from n (suc k) (b - min b (due_at s k)) (moves (min b (due_at s k)) k s)

-- the queues that a sweep with a budget moves
unfoldable pub swept : ℕ → State → List ℕ
swept b s = swept_from queues 0 (min b most_moves) s

-- the state after a move of each of some queues, in order
unfoldable pub move_each : List ℕ → State → State
move_each [] s = s
move_each (q ∷ qs) s = move_each qs (move q s)

-- none of these moves is idle
unfoldable pub EachDue : List ℕ → State → Type 0
EachDue [] s = Unit {0}
EachDue (q ∷ qs) s = (move_answer q s ≡ Idle → ⊥) × EachDue qs (move q s)

-- a sweep with the budget b from the state s to the state t, which reports the moves used and whether any remain
pub record Sweep (b : ℕ) (s t : State) (used : ℕ) (more : Bool) : Type 0 where
  -- it makes these moves, in this order, and none of them is idle
  pub made : t ≡ move_each (swept b s) s
  pub due : EachDue (swept b s) s
  -- it reports their number: the budget or what remained, whichever is less
  pub number : used ≡ length (swept b s)
  pub smaller : used ≡ moves_used b s
  -- the moves remaining are so many fewer
  pub fewer : remaining t + used ≡ remaining s
  -- it says whether any remain; where none does, and after a full budget, no move is due
  pub remain : more ≡ not (eqb (remaining t) 0)
  pub settled : (more ≡ false) ↔ Settled t
  pub full : most_moves ≤ b → Settled t
