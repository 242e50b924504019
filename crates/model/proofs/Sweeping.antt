-- Lists of steps one after another, and a sweep as a list of steps: it leaves what its moves leave, and has no answers.
-- Assumes nothing.
use Prim.Native.Nat.{ℕ, zero, suc, ◌+◌, ◌-◌, ◌*◌, ◌≤◌, ◌<◌, min}
use native.Mathlib.Nat.{div-add-mod', div-lt_iff_lt-mul, mod-lt, mod-eq_of_lt}
use native.Mathlib.Omega.{arith}
use mathlib.Core.List.{List, [], ◌∷◌, ◌++◌, map}
use mathlib.Core.Path.{◌≡◌, refl, ap, ap₂, ◌∙◌}
use lib.Dec.{lit<}
use lib.ListN.{replicate}
use Rattle.rules.specs.State.{State, queues, apid, apqi}
use Rattle.rules.specs.Queues.{due_at, moves, most_moves}
use Rattle.rules.specs.Queues as Queues
use Rattle.rules.specs.Commands.{errno_of, state_after}
use Rattle.rules.specs.Sweeps.{swept_from, swept, move_each}
use Rattle.model.specs.Steps.{Step, command, move, queue_of, rule, after, after_all, answers}
use Rattle.model.specs.Sweeps.{sweep_steps}

-- ---- one list after another

pub after_append : (xs ys : List Step) (s : State) → after_all (xs ++ ys) s ≡ after_all ys (after_all xs s)
unfolding after_all
after_append [] ys s = refl
after_append (x ∷ xs) ys s = after_append xs ys (after x s)

pub answers_append : (xs ys : List Step) (s : State) → answers (xs ++ ys) s ≡ answers xs s ++ answers ys (after_all xs s)
unfolding answers after_all after
answers_append [] ys s = refl
answers_append (command c ∷ xs) ys s = ap (λ (l : List ℕ). errno_of (rule c s) ∷ l) (answers_append xs ys (state_after s (rule c s)))
answers_append (move a d ∷ xs) ys s = answers_append xs ys (Queues.move (queue_of a d) s)

-- ---- a sweep

-- the move of a queue
abbrev step : ℕ → Step
step q = move (apid q) (apqi q)

-- the queue of a number below 65,536
queue_same : (q : ℕ) → q < queues → queue_of (apid q) (apqi q) ≡ q
unfolding queue_of
queue_same q h =
    ap₂ (λ (a d : ℕ). a * 256 + d) (mod-eq_of_lt ((div-lt_iff_lt-mul (lit< tt)).1 h)) (mod-eq_of_lt (mod-lt q (lit< tt)))
    ∙ div-add-mod' q 256

-- the same move again and again, before others
again : (m q : ℕ) (qs : List ℕ) → q < queues → ((s : State) → after_all (map step qs) s ≡ move_each qs s)
    → (s : State) → after_all (map step (replicate m q ++ qs)) s ≡ move_each (replicate m q ++ qs) s
unfolding after_all after move_each
again zero q qs h rest s = rest s
again (suc m) q qs h rest s =
    ap (λ (k : ℕ). after_all (map step (replicate m q ++ qs)) (Queues.move k s)) (queue_same q h) ∙ again m q qs h rest (Queues.move q s)

steps_from : (n k b : ℕ) (s : State) → k + n ≤ queues → (t : State) → after_all (map step (swept_from n k b s)) t ≡ move_each (swept_from n k b s) t
unfolding swept_from after_all move_each
steps_from zero k b s h t = refl
steps_from (suc n) k b s h t =
    let m = min b (due_at s k) in
    again m k (swept_from n (suc k) (b - m) (moves m k s)) (omega arith) (steps_from n (suc k) (b - m) (moves m k s) (omega arith)) t

-- what the steps of a sweep leave is what its moves leave
pub sweep_steps_lem : (b : ℕ) (s : State) → after_all (sweep_steps b s) s ≡ move_each (swept b s) s
unfolding sweep_steps swept
sweep_steps_lem b s = steps_from queues 0 (min b most_moves) s (omega arith) s

-- moves have no answers
no_answers : (qs : List ℕ) (s : State) → answers (map step qs) s ≡ []
unfolding answers
no_answers [] s = refl
no_answers (q ∷ qs) s = no_answers qs (Queues.move (queue_of (apid q) (apqi q)) s)

pub answers_moves : (b : ℕ) (s t : State) → answers (sweep_steps b s) t ≡ []
unfolding sweep_steps
answers_moves b s t = no_answers (swept b s) t
