-- Moves lower the moves remaining by just those that are not idle, and where none remains no move is due.
-- Assumes nothing.
use Prim.Native.Nat.{ℕ, zero, suc, ◌+◌, ◌≤◌, ◌<◌, min}
use native.Mathlib.Nat.{add-zero}
use native.Mathlib.Omega.{arith}
use mathlib.Core.Bool.{Bool, cond}
use mathlib.Core.Path.{◌≡◌, refl, ap, ◌∙◌}
use borrow.Author.Tests.{eq-eqb, ne_eqb}
use Rattle.rules.specs.declared.Driver.{Driver}
use Rattle.rules.specs.declared.Driver.TheVariants.{Unbound, Host, Passthrough}
use Rattle.rules.specs.declared.Moved.{Moved}
use Rattle.rules.specs.declared.Moved.TheVariants.{Idle, Released, BoundHost, BoundPassthrough}
use Rattle.rules.specs.State.{State, queues}
use Rattle.rules.specs.Queues.{target, moved, after, due, due_at, sum_below, remaining, rebound, move_answer, move, moves, Settled, Remaining}
use Rattle.rules.proofs.Sums.{sum_change, sum_zero, zero_sum}

-- the moves that an answer stands for: an idle move is none
unfoldable pub spent : Moved → ℕ
spent Idle = 0
spent Released = 1
spent BoundHost = 1
spent BoundPassthrough = 1

-- by driver and target: at most two moves are due, a move that is not idle leaves one less, and it is idle exactly where none is due
by_target : (d t : Driver) → (due d t ≤ 2) × (due (after d (moved d t)) t + spent (moved d t) ≡ due d t) × (spent (moved d t) ≡ min 1 (due d t))
unfolding after spent
by_target Unbound Unbound = (omega arith, refl, refl)
by_target Unbound Host = (omega arith, refl, refl)
by_target Unbound Passthrough = (omega arith, refl, refl)
by_target Host Unbound = (omega arith, refl, refl)
by_target Host Host = (omega arith, refl, refl)
by_target Host Passthrough = (omega arith, refl, refl)
by_target Passthrough Unbound = (omega arith, refl, refl)
by_target Passthrough Host = (omega arith, refl, refl)
by_target Passthrough Passthrough = (omega arith, refl, refl)

-- the driver of the queue that is given another, and of the others
pub rebound_same : (n : ℕ) (d : Driver) (ds : ℕ → Driver) → rebound n d ds n ≡ d
unfolding rebound
rebound_same n d ds = ap (λ (b : Bool). cond b d (ds n)) (eq-eqb n n refl)

pub rebound_other : (n : ℕ) (d : Driver) (ds : ℕ → Driver) (q : ℕ) → (q ≡ n → ⊥) → rebound n d ds q ≡ ds q
unfolding rebound
rebound_other n d ds q h = ap (λ (b : Bool). cond b d (ds q)) (ne_eqb q n h)

-- what a move leaves due of its queue, and of the others
pub due_here : (q : ℕ) (s : State) → due_at (move q s) q + spent (move_answer q s) ≡ due_at s q
unfolding due_at move move_answer
due_here q s =
    ap (λ (d : Driver). due d (target s q) + spent (moved (s.driver q) (target s q)))
    (rebound_same q (after (s.driver q) (moved (s.driver q) (target s q))) s.driver)
    ∙ (by_target (s.driver q) (target s q)).1

pub due_other : (q j : ℕ) (s : State) → (j ≡ q → ⊥) → due_at (move q s) j ≡ due_at s j
unfolding due_at move
due_other q j s h = ap (λ (d : Driver). due d (target s j)) (rebound_other q (after (s.driver q) (move_answer q s)) s.driver j h)

pub spent_at : (q : ℕ) (s : State) → spent (move_answer q s) ≡ min 1 (due_at s q)
unfolding due_at move_answer
spent_at q s = (by_target (s.driver q) (target s q)).2

-- an answer is idle exactly where it stands for no move
pub idle_spent : (m : Moved) → m ≡ Idle → spent m ≡ 0
unfolding spent
idle_spent m e = ap spent e

pub busy_spent : (m : Moved) → (m ≡ Idle → ⊥) → spent m ≡ 1
unfolding spent
busy_spent Idle h = absurd (h refl)
busy_spent Released h = refl
busy_spent BoundHost h = refl
busy_spent BoundPassthrough h = refl

spent_idle : (m : Moved) → spent m ≡ 0 → m ≡ Idle
unfolding spent
spent_idle Idle e = refl
spent_idle Released e = absurd (omega arith)
spent_idle BoundHost e = absurd (omega arith)
spent_idle BoundPassthrough e = absurd (omega arith)

-- a queue needs at most two moves, and none exactly where its move is idle
pub due_two : (s : State) (q : ℕ) → due_at s q ≤ 2
unfolding due_at
due_two s q = (by_target (s.driver q) (target s q)).0

pub due_idle : (q : ℕ) (s : State) → due_at s q ≡ 0 → move_answer q s ≡ Idle
due_idle q s e = spent_idle (move_answer q s) (omega (arith, spent_at q s))

pub idle_due : (q : ℕ) (s : State) → move_answer q s ≡ Idle → due_at s q ≡ 0
idle_due q s e = omega (arith, spent_at q s, idle_spent (move_answer q s) e)

-- no move remains exactly where none is due
pub remaining_none : (s : State) → Remaining s (remaining s)
unfolding remaining Settled
remaining_none s =
    record {
      number = refl;
      none = (λ e q h. due_idle q s (sum_zero queues (due_at s) e q h), λ f. zero_sum queues (due_at s) (λ q h. idle_due q s (f q h)));
    }

-- a due move lowers the moves remaining by exactly one, and an idle one leaves them
pub remaining_move : (q : ℕ) (s : State) → q < queues → remaining (move q s) + spent (move_answer q s) ≡ remaining s
unfolding remaining
remaining_move q s h =
    let e : sum_below queues (due_at (move q s)) + due_at s q ≡ sum_below queues (due_at s) + due_at (move q s) q =
    sum_change queues q (due_at (move q s)) (due_at s) h (λ j l n. due_other q j s n)
    in
    omega (arith, due_here q s)

-- as many moves of a queue as it needs, or fewer
pub moves_other : (m q j : ℕ) (s : State) → (j ≡ q → ⊥) → due_at (moves m q s) j ≡ due_at s j
unfolding moves
moves_other zero q j s h = refl
moves_other (suc m) q j s h = moves_other m q j (move q s) h ∙ due_other q j s h

pub remaining_moves : (m q : ℕ) (s : State) → q < queues → m ≤ due_at s q → remaining (moves m q s) + m ≡ remaining s
unfolding moves
remaining_moves zero q s h l = add-zero (remaining s)
remaining_moves (suc m) q s h l =
    let one : spent (move_answer q s) ≡ 1 = omega (arith, spent_at q s) in
    let left : m ≤ due_at (move q s) q = omega (arith, due_here q s) in
    omega (arith, remaining_moves m q (move q s) h left, remaining_move q s h)
