-- What an array holds while the digits of a number are written from the right.
-- Assumes nothing.
use Prim.Native.Nat.{ℕ, zero, suc, ◌+◌, ◌-◌, ◌/◌, ◌%◌, ◌^◌, ◌≤◌, ◌<◌}
use native.Mathlib.Omega.{arith}
use mathlib.Core.List.{List, [], ◌∷◌, ◌++◌, append-nil}
use mathlib.Core.Path.{◌≡◌, refl, sym, ap, ◌∙◌}
use lib.ListN.{length, set, replicate, length-replicate}
use lib.Seq.{set_at, append_snoc}
use borrow.Author.Tests.{lt-ltb, le-ltb}
use Rattle.decimal.specs.Decimal.{most, decimal_in, decimal}

-- the last digit of a number
abbrev digit_of : ℕ → ℕ
digit_of n = 48 + n % 10

-- a number of one digit
one_digit : (k r : ℕ) → r < 10 → decimal_in k r ≡ digit_of r ∷ []
unfolding decimal_in
one_digit zero r h = refl
one_digit (suc k) r h = rw (lt-ltb r 10 h)

-- a number of more digits
more_digits : (k r : ℕ) → 10 ≤ r → decimal_in (suc k) r ≡ decimal_in k (r / 10) ++ digit_of r ∷ []
unfolding decimal_in
more_digits k r h = rw (le-ltb r 10 h)

-- the last zero
zeros_snoc : (k : ℕ) (l : List ℕ) → replicate (suc k) 0 ++ l ≡ replicate k 0 ++ 0 ∷ l
zeros_snoc zero l = refl
zeros_snoc (suc k) l = ap (λ (m : List ℕ). 0 ∷ m) (zeros_snoc k l)

-- the digits from an index on are written: the last digit of `rest`, and those after it
pub record Sofar (n : ℕ) (b : List ℕ) (from rest : ℕ) : Type 0 where
  pub after : List ℕ
  pub all : decimal n ≡ decimal_in from rest ++ after
  pub shown : b ≡ replicate from 0 ++ digit_of rest ∷ after
  pub long : from + suc (length after) ≡ most
  pub below : rest < 10 ^ suc from

-- the last digit is written
pub sofar_start : (n : ℕ) → n < 10 ^ most → Sofar n (replicate 9 0 ++ digit_of n ∷ []) 9 n
unfolding decimal
sofar_start n h = record { after = []; all = sym (append-nil (decimal_in 9 n)); shown = refl; long = refl; below = h }

-- there is room for one digit more
pub sofar_room : {n : ℕ} {b : List ℕ} (from : ℕ) {rest : ℕ} → Sofar n b from rest → 10 ≤ rest → 1 ≤ from
sofar_room zero s h = omega (arith, s.below)
sofar_room (suc k) s h = omega arith

module _ {n : ℕ} {b : List ℕ} {from rest : ℕ} (s : Sofar n b from rest) where
  -- one digit more
  pub sofar_digit : 10 ≤ rest → Sofar n (set b (from - 1) (digit_of (rest / 10))) (from - 1) (rest / 10)
  sofar_digit h =
      let k = from - 1 in
      let d = digit_of (rest / 10) in
      let one : from ≡ suc k = omega (arith, sofar_room from s h) in
      let t : Sofar n b (suc k) rest = rw one at s in
      let l = digit_of rest ∷ t.after in
      record {
        after = l;
        all = t.all ∙ ap (λ (m : List ℕ). m ++ t.after) (more_digits k rest h) ∙ append_snoc (decimal_in k (rest / 10)) (digit_of rest) t.after;
        shown = ap (λ (m : List ℕ). set m k d) (t.shown ∙ zeros_snoc k l) ∙ set_at (replicate k 0) 0 l d k (length-replicate k 0);
        long = omega (arith, t.long);
        below = omega (arith, t.below);
      }

  -- all is written
  pub sofar_end : rest < 10 → (b ≡ replicate from 0 ++ decimal n) × (from + length (decimal n) ≡ most)
  sofar_end h =
      let full : decimal n ≡ digit_of rest ∷ s.after = s.all ∙ ap (λ (m : List ℕ). m ++ s.after) (one_digit from rest h) in
      rw full (s.shown, s.long)
