-- A word as its length and its bytes tell, and a number that is a byte.
-- Assumes nothing.
use Prim.Native.Nat.{ℕ, suc, ◌+◌, ◌<◌}
use native.Mathlib.Omega.{arith}
use mathlib.Core.Bool.{Bool, true, false}
use mathlib.Core.List.{List, [], ◌∷◌}
use mathlib.Core.Logic.{◌⊎◌, inl, inr}
use mathlib.Core.Path.{◌≡◌, refl, ap, ◌∙◌}
use lib.ListN.{length, get_or}
use borrow.Author.Tests.{le-leb, lt-leb}
use Rattle.errno.specs.Outcome.{granted, outcome}
use Rattle.errno.specs.declared.Errno.TheVariants.{Einval}
use Rattle.std.specs.Bool.{Decides}
use Rattle.std.specs.Prelude.{Result, Ok, Err}
use Rattle.std.specs.Result.{OkIff, result_or}
use Rattle.std.proofs.lemmas.Result.{OkIff-at_ok, OkIff-at_err}
use Rattle.std.proofs.lemmas.Slice.Eq.{HasBytesAt, compares_Decides, text_from_reads}
use Rattle.number.specs.Text.{at_most}
use Rattle.wordtext.specs.Words.{same}

-- ---- a word is this one, or it is not

-- as many bytes as p, and the same ones
abbrev Spells : List ℕ → List ℕ → Type 0
Spells w p = (length w ≡ length p) × HasBytesAt w 0 p

same_Decides : (w p : List ℕ) → Decides (same w p) (w ≡ p)
unfolding same
same_Decides = compares_Decides same (record { empty = refl; shorter = λ _ _. refl; longer = λ _ _. refl; heads = λ _ _ _ _. refl })

bytes_at : (w p : List ℕ) (i : ℕ) → ((k : ℕ) → get_or w (i + k) 0 ≡ get_or p k 0) → HasBytesAt w i p
bytes_at w [] i h = tt
bytes_at w (c ∷ p) i h = (
  ap (λ (n : ℕ). get_or w n 0) (omega arith) ∙ h 0,
  bytes_at w p (suc i) (λ k. let e : suc i + k ≡ i + suc k = omega arith in ap (λ (n : ℕ). get_or w n 0) e ∙ h (suc k)),
)

pub same_tells : (w p : List ℕ) → ((same w p ≡ true) × Spells w p) ⊎ (same w p ≡ false)
same_tells w p = go (same w p) refl
  where
    go : (b : Bool) → same w p ≡ b → ((same w p ≡ true) × Spells w p) ⊎ (same w p ≡ false)
    go true e = let q = (same_Decides w p).0 e in inl (e, (ap length q, bytes_at w p 0 (λ k. let z : 0 + k ≡ k = omega arith in rw (z, q) refl)))
    go false e = inr e

pub same_spelled : (w p : List ℕ) → Spells w p → same w p ≡ true
same_spelled w p h = (same_Decides w p).1 (text_from_reads w p h.0 h.1)

-- a number is a byte, or is above 255
pub byte_is : {E : Type 0} (r : Result ℕ E) (n : ℕ) → OkIff r (n < 256) n → outcome (result_or r (Err Einval)) ≡ at_most 255 (granted n)
unfolding outcome at_most
byte_is {E} (Ok x) n h =
    let f : (n < 256) × (x ≡ n) = OkIff-at_ok {E = E} (Ok x) (n < 256) n x h refl in
    rw (le-leb n 255 (omega (arith, f.0))) (ap granted f.1)
byte_is {E} (Err e) n h =
    let f : (n < 256) → ⊥ = OkIff-at_err {E = E} (Err e) (n < 256) n e h refl in
    rw (lt-leb n 255 (omega (arith, f)))
