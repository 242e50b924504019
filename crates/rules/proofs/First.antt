-- The first number that a test holds of.
-- Assumes nothing.
use Prim.Native.Nat.{ℕ, zero, suc, ◌+◌, ◌-◌, ◌≤◌, ◌<◌}
use native.Mathlib.Numerals.{add-one}
use native.Mathlib.Omega.{arith}
use mathlib.Core.Bool.{Bool, true, false, cond}
use lib.Dec.{ltb}
use mathlib.Core.Path.{◌≡◌, refl, sym, ap, subst, ◌∙◌}
use mathlib.Core.Logic.{⊎_elim}
use native.Mathlib.Nat.{zero-add, eq-or-lt_of_le}
use Rattle.std.proofs.Common.{Option, Some, None, MatchOption, MatchBool, length, get_or}
use Rattle.std.specs.List.{range_with_len, AllWithin, HoldsAt}
use Rattle.std.proofs.lemmas.List.FromFn.{length-range_with_len, get_or-range_with_len}
use borrow.Author.Tests.{ltb-true, ltb-false, lt-ltb, le-ltb}
use Rattle.mask.specs.Bits.{Bits, some_below}
use Rattle.mask.proofs.Laws.{some_intro, none_some}
use Rattle.rules.specs.State.{slots}
use Rattle.rules.specs.Commands.{first_from, found}

-- the test holds of the first, or the first of the rest is the answer
pub first_here : (n k : ℕ) (p : Bits) → p k ≡ true → first_from (suc n) k p ≡ k
unfolding first_from
first_here n k p e = ap (λ (b : Bool). cond b k (first_from n (suc k) p)) e

pub first_next : (n k : ℕ) (p : Bits) → p k ≡ false → first_from (suc n) k p ≡ first_from n (suc k) p
unfolding first_from
first_next n k p e = ap (λ (b : Bool). cond b k (first_from n (suc k) p)) e

-- the same of the numbers from k up to n
turn_here : (n k : ℕ) (p : Bits) → k < n → p k ≡ true → first_from (n - k) k p ≡ k
turn_here n k p h e =
    let l : n - k ≡ suc (n - (k + 1)) = omega arith in
    subst (λ (m : ℕ). first_from m k p ≡ k) (sym l) (first_here (n - (k + 1)) k p e)

turn_next : (n k : ℕ) (p : Bits) → k < n → p k ≡ false → first_from (n - k) k p ≡ first_from (n - (k + 1)) (k + 1) p
turn_next n k p h e =
    let l : n - k ≡ suc (n - (k + 1)) = omega arith in
    subst (λ (m : ℕ). first_from m k p ≡ first_from (n - (k + 1)) (k + 1) p) (sym l)
    (first_next (n - (k + 1)) k p e ∙ ap (λ (m : ℕ). first_from (n - (k + 1)) m p) (sym (add-one k)))

turn_end : (n k : ℕ) (p : Bits) → n ≤ k → first_from (n - k) k p ≡ k
unfolding first_from
turn_end n k p h =
    let l : n - k ≡ 0 = omega arith in
    subst (λ (m : ℕ). first_from m k p ≡ k) (sym l) refl

-- the test holds of the answer, unless there is none
pub first_holds : (n k : ℕ) (p : Bits) → first_from n k p < k + n → p (first_from n k p) ≡ true
unfolding first_from
first_holds zero k p h = absurd (omega arith)
first_holds (suc n) k p h = go (p k) refl h (first_holds n (suc k) p)
  where
    go : (b : Bool) → p k ≡ b → cond b k (first_from n (suc k) p) < k + suc n
        → (first_from n (suc k) p < suc k + n → p (first_from n (suc k) p) ≡ true) → p (cond b k (first_from n (suc k) p)) ≡ true
    go true e h next = e
    go false e h next = next (omega arith)

-- and of none before it
pub first_before : (n k : ℕ) (p : Bits) (j : ℕ) → k ≤ j → j < first_from n k p → p j ≡ false
unfolding first_from
first_before zero k p j l h = absurd (omega arith)
first_before (suc n) k p j l h = go (p k) refl h (first_before n (suc k) p j)
  where
    go : (b : Bool) → p k ≡ b → j < cond b k (first_from n (suc k) p)
        → (suc k ≤ j → j < first_from n (suc k) p → p j ≡ false) → p j ≡ false
    go true e h next = absurd (omega arith)
    go false e h next = ⊎_elim (λ q. subst (λ (m : ℕ). p m ≡ false) q e) (λ q. next q h) (eq-or-lt_of_le l)

-- a search that ended at a slot found it, and one that ended past the last found none
found_at : {p q : ℕ} → p < slots → q ≡ p → Some p ≡ found q
found_at {p} {q} h e = sym (ap found e ∙ ap (λ (t : Bool). cond t (Some p) None) (lt-ltb p slots h))

found_none : {p q : ℕ} → q ≡ p → slots ≤ p → None ≡ found q
found_none {p} {q} e h = sym (ap found e ∙ ap (λ (t : Bool). cond t (Some p) None) (le-ltb p slots h))

-- none of the first n is it
skipped : (m n : ℕ) (p : Bits) → n ≤ m → ((k : ℕ) → 0 ≤ k → k < n → p k ≡ false) → first_from m 0 p ≡ first_from (m - n) n p
skipped m zero p l h = let same : m - 0 ≡ m = omega arith in ap (λ (j : ℕ). first_from j 0 p) (sym same)
skipped m (suc n) p l h =
    skipped m n p (omega arith) (λ k low high. h k low (omega arith))
    ∙ turn_next m n p l (h n (omega arith) (omega arith)) ∙ ap (λ (j : ℕ). first_from (m - j) j p) (add-one n)

-- a search over the slots finds the first that the test holds of
pub first_of_slots : (p : Bits) {r : Option ℕ}
    → MatchOption r ((k : ℕ) → 0 ≤ k → k < slots → p k ≡ false)
    (λ i. (0 ≤ i) × (i < slots) × (p i ≡ true) × ((k : ℕ) → 0 ≤ k → k < i → p k ≡ false))
    → r ≡ found (first_from slots 0 p)
first_of_slots p {r = None} none =
    found_none (skipped slots slots p (omega arith) none ∙ turn_end slots slots p (omega arith)) (omega arith)
first_of_slots p {r = Some i} (low, l, here, before) =
    found_at l (skipped slots i p (omega arith) before ∙ turn_here slots i p l here)

-- the numbers below n in order
at_place : (n k : ℕ) → k < n → k ≡ get_or (range_with_len 0 n) k 0
at_place n k l = sym (get_or-range_with_len 0 n k 0 l ∙ zero-add k)

-- whether the test holds of some number below n
pub some_of_range : (n : ℕ) (p : Bits) {r : Bool}
    → MatchBool r
    ((k : ℕ) × (k < length (range_with_len 0 n)) × HoldsAt (λ x. p x ≡ true) (range_with_len 0 n) k)
    (AllWithin (λ x. p x ≡ false) (range_with_len 0 n) 0 (length (range_with_len 0 n)))
    → r ≡ some_below n p
some_of_range n p {r = true} (k, l, h) =
    let l' : k < n = omega (arith, length-range_with_len 0 n) in
    sym (some_intro n p k l' (ap p (at_place n k l') ∙ h 0))
some_of_range n p {r = false} none =
    sym (none_some n p (λ k l. ap p (at_place n k l) ∙ none k 0 (omega arith) (omega (arith, length-range_with_len 0 n))))

-- what is known of a slot that was found, and where none was
pub found_some : {p q : ℕ} → Some p ≡ found q → (p < slots) × (p ≡ q)
found_some {p} {q} h = go (ltb q slots) refl h
  where
    go : (b : Bool) → ltb q slots ≡ b → Some p ≡ cond b (Some q) None → (p < slots) × (p ≡ q)
    go true e h = let same : p ≡ q = cc in (subst (λ (k : ℕ). k < slots) (sym same) (ltb-true q slots e), same)
    go false e h = cc

pub found_nothing : {q : ℕ} → None ≡ found q → slots ≤ q
found_nothing {q} h = go (ltb q slots) refl h
  where
    go : (b : Bool) → ltb q slots ≡ b → None ≡ cond b (Some q) None → slots ≤ q
    go true e h = absurd cc
    go false e h = ltb-false q slots e
