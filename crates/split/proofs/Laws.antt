-- Where a piece ends, and the pieces from there on.
-- Assumes nothing.
use Prim.Native.Nat.{ℕ, suc, ◌+◌, ◌-◌, ◌≤◌, ◌<◌, zero-le}
use native.Mathlib.Nat.{add-zero}
use native.Mathlib.Omega.{arith}
use mathlib.Core.Bool.{Bool, true, false, cond, not, ◌||◌}
use mathlib.Core.List.{List, [], ◌∷◌}
use mathlib.Core.Path.{◌≡◌, refl, sym, ap, ◌∙◌}
use lib.Dec.{eqb, ltb}
use lib.ListN.{length, get_or, take, drop, drop_of_length-le, length-drop}
use lib.Seq.{drop-cons, drop-drop, take_all, length-take-le}
use borrow.Author.Tests.{ltb-false}
use Rattle.std.proofs.Common.{Some, None}
use Rattle.std.specs.List.{position, position_or_len}
use Rattle.std.specs.Option.{unwrap_or}
use Rattle.split.specs.Cut.{onto, cut, holds, first_of, end_from, piece_from}

-- ---- the end of a piece

pub end_past : (c : ℕ) (s : List ℕ) (i : ℕ) → length s ≤ i → end_from c i s ≡ i
unfolding end_from first_of
end_past c s i h = rw (drop_of_length-le s {i = i} h) (add-zero i)

pub first_within : (c : ℕ) (s : List ℕ) → first_of c s ≤ length s
unfolding first_of
first_within c [] = zero-le
first_within c (x ∷ xs) = go (eqb x c) (first_within c xs)
  where
    go : (b : Bool) → first_of c xs ≤ length xs → cond b 0 (suc (first_of c xs)) ≤ suc (length xs)
    go true h = zero-le
    go false h = omega arith

-- a piece that begins within the bytes ends within them
pub end_within : (c i : ℕ) (s : List ℕ) → i ≤ length s → (i ≤ end_from c i s) × (end_from c i s ≤ length s)
unfolding end_from
end_within c i s h =
    (omega arith, omega (arith, first_within c (drop i s), length-drop i s))

-- the bytes before the first separator, as `position` counts them
first_is : (c : ℕ) (s : List ℕ) → position_or_len (λ b. eqb b c) s ≡ first_of c s
unfolding first_of
first_is c [] = refl
first_is c (x ∷ xs) = go (eqb x c) (first_is c xs)
  where
    go : (b : Bool) → position_or_len (λ b. eqb b c) xs ≡ first_of c xs → cond (not b) (1 + position_or_len (λ b. eqb b c) xs) 0 ≡ cond b 0 (suc (first_of c xs))
    go true h = refl
    go false h = omega (arith, h)

pub found_or_all : (c : ℕ) (s : List ℕ) → unwrap_or (position (λ b. eqb b c) s) (length s) ≡ first_of c s
found_or_all c s = go (ltb n (length s)) refl
  where
    n : ℕ
    n = position_or_len (λ b. eqb b c) s

    go : (b : Bool) → ltb n (length s) ≡ b → unwrap_or (cond b (Some n) None) (length s) ≡ first_of c s
    go true e = first_is c s
    go false e = omega (arith, first_is c s, first_within c s, ltb-false n (length s) e)

-- ---- the pieces

-- a separator is found: a piece up to it, and the pieces after it
pub cut_found : (c : ℕ) (s : List ℕ) → first_of c s < length s → cut c s ≡ take (first_of c s) s ∷ cut c (drop (suc (first_of c s)) s)
unfolding cut first_of onto
cut_found c [] h = absurd (omega arith)
cut_found c (x ∷ xs) h = go (eqb x c) (cut_found c xs) h
  where
    go : (b : Bool) → (first_of c xs < length xs → cut c xs ≡ take (first_of c xs) xs ∷ cut c (drop (suc (first_of c xs)) xs))
        → cond b 0 (suc (first_of c xs)) < suc (length xs)
        → cond b ([] ∷ cut c xs) (onto (x ∷ []) (cut c xs))
        ≡ take (cond b 0 (suc (first_of c xs))) (x ∷ xs) ∷ cut c (drop (suc (cond b 0 (suc (first_of c xs)))) (x ∷ xs))
    go true f l = refl
    go false f l = ap (onto (x ∷ [])) (f (omega arith))

-- none is found: one piece
pub cut_last : (c : ℕ) (s : List ℕ) → first_of c s ≡ length s → cut c s ≡ s ∷ []
unfolding cut first_of onto
cut_last c [] h = refl
cut_last c (x ∷ xs) h = go (eqb x c) (cut_last c xs) h
  where
    go : (b : Bool) → (first_of c xs ≡ length xs → cut c xs ≡ xs ∷ []) → cond b 0 (suc (first_of c xs)) ≡ suc (length xs) → cond b ([] ∷ cut c xs) (onto (x ∷ []) (cut c xs)) ≡ (x ∷ xs) ∷ []
    go true f l = absurd (omega arith)
    go false f l = ap (onto (x ∷ [])) (f (omega arith))

-- ---- the piece at an index

pub piece_is : (c i e : ℕ) (s : List ℕ) → e ≡ end_from c i s → take (e - i) (drop i s) ≡ piece_from c i s
unfolding piece_from end_from
piece_is c i e s q =
    let n : e - i ≡ first_of c (drop i s) = omega arith in
    ap (λ (k : ℕ). take k (drop i s)) n

pub piece_past : (c i : ℕ) (s : List ℕ) → length s < i → take (length s - length s) (drop (length s) s) ≡ piece_from c i s
unfolding piece_from first_of
piece_past c i s h =
    let none : length s - length s ≡ 0 = omega arith in
    ap (λ (k : ℕ). take k (drop (length s) s)) none ∙ sym (ap (λ (l : List ℕ). take (first_of c l) l) (drop_of_length-le s {i = i} (omega arith)))

-- ---- the pieces from an index on, by where the first one ends

module _ (c i : ℕ) (s : List ℕ) {e : ℕ} (q : e ≡ end_from c i s) (h : i ≤ length s) where
  -- it ends at a separator
  pub cut_next : e < length s → cut c (drop i s) ≡ piece_from c i s ∷ cut c (drop (e + 1) s)
  unfolding end_from piece_from
  cut_next l =
      let k : i + suc (first_of c (drop i s)) ≡ e + 1 = omega arith in
      cut_found c (drop i s) (omega (arith, length-drop i s))
      ∙ ap (λ (l : List ℕ). piece_from c i s ∷ cut c l) (drop-drop (suc (first_of c (drop i s))) i s ∙ ap (λ (j : ℕ). drop j s) k)

  -- it is the last, and all that is left
  pub cut_end : length s ≤ e → (cut c (drop i s) ≡ piece_from c i s ∷ []) × (drop i s ≡ piece_from c i s)
  unfolding end_from piece_from
  cut_end l =
      let n : first_of c (drop i s) ≡ length (drop i s) = omega (arith, length-drop i s, first_within c (drop i s)) in
      let all : drop i s ≡ take (first_of c (drop i s)) (drop i s) = sym (take_all (first_of c (drop i s)) (drop i s) (omega arith)) in
      (cut_last c (drop i s) n ∙ ap (λ (l : List ℕ). l ∷ []) all, all)

-- there is a piece at least
pub cut_some : (c : ℕ) (s : List ℕ) → 1 ≤ length (cut c s)
unfolding cut onto
cut_some c [] = omega arith
cut_some c (x ∷ xs) = go (eqb x c) (cut c xs)
  where
    go : (b : Bool) (ps : List (List ℕ)) → 1 ≤ length (cond b ([] ∷ ps) (onto (x ∷ []) ps))
    go true ps = omega arith
    go false [] = omega arith
    go false (p ∷ ps) = omega arith

-- the first piece of all
pub cut_one : (c : ℕ) (s : List ℕ) {a : ℕ} → a ≡ end_from c 0 s → a < length s → cut c s ≡ piece_from c 0 s ∷ cut c (drop (a + 1) s)
cut_one c s qa la = cut_next c 0 s qa (omega arith) la

-- a piece has no separator in it
first_free : (c : ℕ) (s : List ℕ) → holds c (take (first_of c s) s) ≡ false
unfolding first_of holds
first_free c [] = refl
first_free c (x ∷ xs) = go (eqb x c) refl (first_free c xs)
  where
    go : (b : Bool) → eqb x c ≡ b → holds c (take (first_of c xs) xs) ≡ false → holds c (take (cond b 0 (suc (first_of c xs))) (x ∷ xs)) ≡ false
    go true e h = refl
    go false e h = ap (λ (b : Bool). b || holds c (take (first_of c xs) xs)) e ∙ h

pub piece_free : (c i : ℕ) (s : List ℕ) → holds c (piece_from c i s) ≡ false
unfolding piece_from
piece_free c i s = first_free c (drop i s)

-- ---- whether a byte occurs

-- of the bytes from i on, when byte i is looked at
pub holds_turn : (c : ℕ) (s : List ℕ) (i : ℕ) (found : Bool) {b next : Bool} → i < length s → b ≡ eqb (get_or s i 0) c → next ≡ (found || b)
    → (found || holds c (drop i s)) ≡ (next || holds c (drop (i + 1) s))
unfolding holds
holds_turn c s i found {b} {next} h eb en =
    let step : suc i ≡ i + 1 = omega arith in
    ap (λ (l : List ℕ). found || holds c l) (drop-cons s i 0 h) ∙ ap (λ (k : ℕ). found || (eqb (get_or s i 0) c || holds c (drop k s))) step
    ∙ ap (λ (t : Bool). found || (t || holds c (drop (i + 1) s))) (sym eb) ∙ go found b (holds c (drop (i + 1) s))
    ∙ ap (λ (t : Bool). t || holds c (drop (i + 1) s)) (sym en)
  where
    go : (x y z : Bool) → (x || (y || z)) ≡ ((x || y) || z)
    go true y z = refl
    go false y z = refl

pub holds_end : (c : ℕ) (s : List ℕ) (i : ℕ) (found : Bool) → length s ≤ i → (found || holds c (drop i s)) ≡ found
unfolding holds
holds_end c s i found h = ap (λ (l : List ℕ). found || holds c l) (drop_of_length-le s {i = i} h) ∙ go found
  where
    go : (x : Bool) → (x || false) ≡ x
    go true = refl
    go false = refl

-- where a piece ends, by its length
pub piece_end : (c i : ℕ) (s : List ℕ) {p : List ℕ} → p ≡ piece_from c i s → i ≤ length s → (i + length p ≡ end_from c i s) × (i + length p ≤ length s)
unfolding piece_from end_from
piece_end c i s e h =
    let n = length-take-le (first_of c (drop i s)) (drop i s) (first_within c (drop i s)) in
    (omega (arith, ap length e, n), omega (arith, ap length e, n, first_within c (drop i s), length-drop i s))

pub first_end : (c : ℕ) (s : List ℕ) {p : List ℕ} → p ≡ piece_from c 0 s → length p ≡ end_from c 0 s
first_end c s e = omega (arith, (piece_end c 0 s e (omega arith)).0)
