-- The numbers that a range with its end gives.
-- Assumes nothing.
use Prim.Native.Nat.{ℕ, zero, suc, ◌+◌, ◌-◌}
use native.Mathlib.Omega.{arith}
use mathlib.Core.Bool.{Bool, true, false}
use mathlib.Core.List.{List, [], ◌∷◌}
use mathlib.Core.Path.{◌≡◌, refl, sym, ap, ap₂, subst, ◌∙◌}
use Rattle.std.specs.List.{range_with_len}
use Rattle.std.specs.declared.ops.RangeInclusive.{RangeInclusive}
use Rattle.std.specs.Range.{range_inclusive_steps, range_inclusive_start, range_inclusive_end, range_inclusive_left, range_inclusive_len, range_inclusive_exhausted}
use Rattle.std.proofs.Common.{Option}
use Rattle.std.proofs.lemmas.Iterator.{YieldsList}
use Rattle.std.proofs.lemmas.Iterator.Consumers.{YieldsList-from_shown}
use Rattle.std.proofs.lemmas.List.FromFn.{length-range_with_len}

abbrev gap : ℕ → ℕ → ℕ
gap x y = y - x

abbrev pub steps : RangeInclusive ℕ → Option ℕ → RangeInclusive ℕ → Type 0
steps = range_inclusive_steps gap (λ x y. y ≡ x + 1)

abbrev left : RangeInclusive ℕ → List ℕ
left s = range_with_len (range_inclusive_start s) (range_inclusive_left gap s)

turn : (a n b m x : ℕ) → m + 1 ≡ n → x ≡ a → ((m ≡ 0 → ⊥) → b ≡ a + 1) → range_with_len a n ≡ x ∷ range_with_len b m
turn a n b zero x e f g = ap (range_with_len a) (sym e) ∙ ap (λ (w : ℕ). w ∷ []) (sym f)
turn a n b (suc m) x e f g =
    let next : n ≡ suc (suc m) = omega arith in
    let more : suc m ≡ 0 → ⊥ = omega arith in
    ap (range_with_len a) next ∙ ap₂ (λ (w i : ℕ). w ∷ range_with_len i (suc m)) (sym f) (sym (g more))

open_left : (s : RangeInclusive ℕ) → (range_inclusive_left gap s ≡ 0 → ⊥) → range_inclusive_exhausted s ≡ false
open_left s h = go (range_inclusive_exhausted s) refl
  where
    go : (b : Bool) → range_inclusive_exhausted s ≡ b → b ≡ false
    go true e = absurd (h (ap (range_inclusive_len gap (range_inclusive_start s) (range_inclusive_end s)) e))
    go false e = refl

-- a range of which nothing came yet
pub inclusive_yields : {s r : RangeInclusive ℕ} (a b n : ℕ) → s ≡ r → range_inclusive_start r ≡ a → range_inclusive_end r ≡ b
    → range_inclusive_exhausted r ≡ false → gap a b + 1 - gap b a ≡ n → YieldsList steps (λ x. x) s (range_with_len a n)
inclusive_yields {s} {r} a b n same start end fresh many =
    let count : range_inclusive_left gap r ≡ n =
    ap₂ (λ (x y : ℕ). range_inclusive_len gap x y (range_inclusive_exhausted r)) start end ∙ ap (range_inclusive_len gap a b) fresh ∙ many in
    subst (λ (l : List ℕ). YieldsList steps (λ x. x) s l) (ap left same ∙ ap₂ range_with_len start count)
    (YieldsList-from_shown steps (λ x. x) left
    (λ s t h. length-range_with_len (range_inclusive_start s) (range_inclusive_left gap s) ∙ h.1.0)
    (λ s x t h. turn _ _ _ _ x h.1.1 h.1.0 (λ n. h.1.2 (open_left t n))) s)
