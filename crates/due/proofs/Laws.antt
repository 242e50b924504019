-- What is due of a queue, by its byte and its target; what is due of the queues of some adapters.
-- Assumes nothing.
use Prim.Native.Nat.{ℕ, zero, suc, ◌+◌, ◌*◌, ◌^◌, ◌≤◌, ◌<◌}
use native.Mathlib.Nat.{zero-add, add-zero}
use native.Mathlib.Omega.{arith}
use mathlib.Core.List.{List, map}
use mathlib.Core.Path.{◌≡◌, refl, sym, ap, ap₂, ◌∙◌}
use lib.ListN.{get_or}
use Rattle.std.specs.List.{range_with_len, sum}
use Rattle.std.proofs.lemmas.List.Sums.{sum_by-cons}
use Rattle.rules.specs.Queues.{target_of, due, due_at, sum_from}
use Rattle.rules.proofs.Sums.{sum_from_parts, sum_from_le}
use Rattle.rules.proofs.Moves.{due_two}
use Rattle.targetrow.specs.declared.TargetRow.{TargetRow}
use Rattle.targetrow.specs.TargetRows.{TargetsOf, row_target}
use Rattle.targetrow.proofs.Laws.{row_target_lem}
use Rattle.layout.specs.Layout.{state_in, host_in, config_in, driver_of}

pub due_read : (ws qs : List ℕ) (j : ℕ) → due_at (state_in ws qs) j ≡ due (driver_of (get_or qs j 0)) (target_of (host_in ws) (config_in ws) j)
unfolding due_at state_in
due_read ws qs j = refl

-- the terms of some adapters' queues and those of the next
pub row_more : (a : ℕ) (f : ℕ → ℕ) → sum_from (a * 256) 0 f + sum_from 256 (a * 256) f ≡ sum_from ((a + 1) * 256) 0 f
row_more a f =
    let e : a * 256 + 256 ≡ (a + 1) * 256 = omega arith in
    ap (λ (i : ℕ). sum_from (a * 256) 0 f + sum_from 256 i f) (sym (zero-add (a * 256))) ∙ sum_from_parts (a * 256) 256 0 f ∙ ap (λ (i : ℕ). sum_from i 0 f) e

-- the sum of the terms of a range
sum_is : (n k base : ℕ) (h f : ℕ → ℕ) → ((j : ℕ) → j < k + n → h j ≡ f (base + j)) → sum (map h (range_with_len k n)) ≡ sum_from n (base + k) f
unfolding sum_from
sum_is zero k base h f e = refl
sum_is (suc n) k base h f e =
    let next : base + (k + 1) ≡ suc (base + k) = omega arith in
    sum_by-cons (λ x. x) (h k) (map h (range_with_len (k + 1) n))
    ∙ ap₂ ◌+◌ (e k (omega arith)) (sum_is n (k + 1) base h f (λ j l. e j (omega arith)) ∙ ap (λ (i : ℕ). sum_from n i f) next)

-- what is due of an adapter's first n queues, by their bytes and their row's targets
module _ (ws qs : List ℕ) (a : ℕ) (r : TargetRow) (t : TargetsOf (host_in ws) (config_in ws) a r) (n : ℕ) (l : n ≤ 256) where
  pub row_sum : sum (map (λ j. due (driver_of (get_or qs (a * 256 + j) 0)) (row_target r j)) (range_with_len 0 n))
      ≡ sum_from n (a * 256) (due_at (state_in ws qs))
  row_sum =
      sum_is n 0 (a * 256) (λ j. due (driver_of (get_or qs (a * 256 + j) 0)) (row_target r j)) (due_at (state_in ws qs))
      (λ j h. ap (due (driver_of (get_or qs (a * 256 + j) 0))) (row_target_lem t j (omega arith)) ∙ sym (due_read ws qs (a * 256 + j)))
      ∙ ap (λ (i : ℕ). sum_from n i (due_at (state_in ws qs))) (add-zero (a * 256))

  pub row_fits : sum (map (λ j. due (driver_of (get_or qs (a * 256 + j) 0)) (row_target r j)) (range_with_len 0 n)) < 2 ^ 32
  row_fits = omega (arith, row_sum, sum_from_le n (a * 256) 2 (due_at (state_in ws qs)) (due_two (state_in ws qs)))
