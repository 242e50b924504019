-- A sweep makes the moves of its list, none of them idle, and the moves remaining are so many fewer.
-- Assumes nothing.
use Prim.Native.Nat.{ℕ, zero, suc, ◌+◌, ◌-◌, ◌≤◌, min}
use native.Mathlib.Omega.{arith}
use mathlib.Core.Bool.{Bool, not}
use mathlib.Core.List.{List, [], ◌∷◌, ◌++◌}
use mathlib.Core.Path.{◌≡◌, refl, sym, ap, subst, ◌∙◌}
use lib.Dec.{eqb}
use lib.ListN.{length, replicate, length-append, length-replicate}
use borrow.Author.Tests.{eqb-true, eq-eqb, not-false}
use Rattle.rules.specs.State.{State, queues}
use Rattle.rules.specs.Queues.{sum_from, due_at, remaining, move, moves, most_moves, moves_used}
use Rattle.rules.specs.Sweeps.{swept_from, swept, move_each, EachDue, Sweep}
use Rattle.rules.proofs.Sums.{sum_le, sum_from_cong, sum_all}
use Rattle.rules.proofs.Moves.{due_here, due_two, spent_at, idle_due, moves_other, remaining_moves, remaining_none}

-- ---- the moves remaining

-- moves of a queue leave what is due of those after it
ahead_same : (m n k : ℕ) (s : State) → sum_from n (suc k) (due_at (moves m k s)) ≡ sum_from n (suc k) (due_at s)
ahead_same m n k s = sum_from_cong n (suc k) (due_at (moves m k s)) (due_at s) (λ j l. moves_other m k j s (λ e. omega arith))

-- the state after a sweep of the n queues from k on with b moves to make: each queue is finished before the next
unfoldable pub sweep_from : ℕ → ℕ → ℕ → State → State
sweep_from zero k b s = s
sweep_from (suc n) k b s = sweep_from n (suc k) (b - min b (due_at s k)) (moves (min b (due_at s k)) k s)

-- the state after a sweep of all queues
unfoldable pub sweep : ℕ → State → State
sweep b s = sweep_from queues 0 (min b most_moves) s

-- a sweep lowers the moves remaining by the smaller of its budget and what its queues need
remaining_sweep : (n k b : ℕ) (s : State) → k + n ≤ queues → remaining (sweep_from n k b s) + min b (sum_from n k (due_at s)) ≡ remaining s
unfolding sweep_from sum_from
remaining_sweep zero k b s h = omega arith
remaining_sweep (suc n) k b s h =
    let m = min b (due_at s k) in
    let t = moves m k s in
    let here : remaining t + m ≡ remaining s = remaining_moves m k s (omega arith) (omega arith) in
    omega (arith, here, ahead_same m n k s, remaining_sweep n (suc k) (b - m) t (omega arith))

-- the moves remaining are what all queues need
pub all_due : (s : State) → sum_from queues 0 (due_at s) ≡ remaining s
unfolding remaining
all_due s = sum_all queues (due_at s)

pub remaining_swept : (b : ℕ) (s : State) → remaining (sweep b s) + moves_used b s ≡ remaining s
unfolding sweep moves_used
remaining_swept b s =
    subst (λ (m : ℕ). remaining (sweep_from queues 0 (min b most_moves) s) + min (min b most_moves) m ≡ remaining s) (all_due s)
    (remaining_sweep queues 0 (min b most_moves) s (omega arith))

-- ---- the list of a sweep

-- one list of moves after another
each_append : (xs ys : List ℕ) (s : State) → move_each (xs ++ ys) s ≡ move_each ys (move_each xs s)
unfolding move_each
each_append [] ys s = refl
each_append (q ∷ xs) ys s = each_append xs ys (move q s)

-- the same move again and again
each_same : (m q : ℕ) (s : State) → move_each (replicate m q) s ≡ moves m q s
unfolding move_each moves
each_same zero q s = refl
each_same (suc m) q s = each_same m q (move q s)

-- what the moves of a sweep leave is what the sweep leaves
each_from : (n k b : ℕ) (s : State) → sweep_from n k b s ≡ move_each (swept_from n k b s) s
unfolding swept_from sweep_from move_each
each_from zero k b s = refl
each_from (suc n) k b s =
    let m = min b (due_at s k) in
    let rest = swept_from n (suc k) (b - m) (moves m k s) in
    each_from n (suc k) (b - m) (moves m k s) ∙ ap (move_each rest) (sym (each_same m k s)) ∙ sym (each_append (replicate m k) rest s)

-- how many there are
number_from : (n k b : ℕ) (s : State) → length (swept_from n k b s) ≡ min b (sum_from n k (due_at s))
unfolding swept_from sum_from
number_from zero k b s = omega arith
number_from (suc n) k b s =
    let m = min b (due_at s k) in
    let rest = swept_from n (suc k) (b - m) (moves m k s) in
    omega (arith, length-append (replicate m k) rest, length-replicate m k, number_from n (suc k) (b - m) (moves m k s), ahead_same m n k s)

-- none of them is idle
due_append : (xs ys : List ℕ) (s : State) → EachDue xs s → EachDue ys (move_each xs s) → EachDue (xs ++ ys) s
unfolding EachDue move_each
due_append [] ys s a b = b
due_append (q ∷ xs) ys s a b = (a.0, due_append xs ys (move q s) a.1 b)

due_same : (m q : ℕ) (s : State) → m ≤ due_at s q → EachDue (replicate m q) s
unfolding EachDue
due_same zero q s l = tt
due_same (suc m) q s l = (λ e. omega (arith, idle_due q s e), due_same m q (move q s) (omega (arith, due_here q s, spent_at q s)))

due_from : (n k b : ℕ) (s : State) → EachDue (swept_from n k b s) s
unfolding swept_from EachDue
due_from zero k b s = tt
due_from (suc n) k b s =
    let m = min b (due_at s k) in
    let rest = swept_from n (suc k) (b - m) (moves m k s) in
    due_append (replicate m k) rest s (due_same m k s (omega arith))
    (subst (EachDue rest) (sym (each_same m k s)) (due_from n (suc k) (b - m) (moves m k s)))

-- ---- a whole sweep

-- a full budget suffices
remaining_le : (s : State) → remaining s ≤ most_moves
unfolding remaining
remaining_le s = sum_le queues 2 (due_at s) (due_two s)

pub sweeping : (b : ℕ) (s t : State) (used : ℕ) (more : Bool) → t ≡ sweep b s → used ≡ moves_used b s → more ≡ not (eqb (remaining t) 0)
    → Sweep b s t used more
unfolding sweep swept moves_used
sweeping b s t used more e u m =
    let fewer : remaining t + used ≡ remaining s = rw (e, u) (remaining_swept b s) in
    let none = (remaining_none t).none in
    record {
      made = e ∙ each_from queues 0 (min b most_moves) s;
      due = due_from queues 0 (min b most_moves) s;
      number = u ∙ sym (number_from queues 0 (min b most_moves) s ∙ ap (min (min b most_moves)) (all_due s));
      smaller = u;
      fewer = fewer;
      remain = m;
      settled = (
        λ f. none.0 (eqb-true (remaining t) 0 (not-false (eqb (remaining t) 0) (sym m ∙ f))),
        λ h. m ∙ ap not (eq-eqb (remaining t) 0 (none.1 h)),
      );
      full = λ l. none.0 (omega (arith, fewer, remaining_le s));
    }
