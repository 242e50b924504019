-- Laws of the text of a number: digits and the limit.
-- Assumes nothing.
use Prim.Native.Nat.{ℕ, suc, ◌+◌, ◌*◌, ◌<◌, ◌≤◌}
use native.Mathlib.Nat.{le-mul_of_pos_right}
use native.Mathlib.Numerals.{add-one}
use native.Mathlib.Omega.{arith}
use mathlib.Core.Bool.{Bool, true, false, cond}
use mathlib.Core.List.{List, [], ◌∷◌}
use mathlib.Core.Path.{◌≡◌, refl}
use lib.ListN.{length, get_or, drop}
use lib.Seq.{drop-cons}
use lib.Dec.{ltb, leb}
use borrow.Author.Tests.{ltb-true, leb-true, leb-false, lt-leb}
use Rattle.errno.specs.Outcome.{Outcome, granted, refused}
use Rattle.errno.specs.declared.Errno.TheVariants.{Einval}
use Rattle.digits.specs.Digits.{digit_of}
use Rattle.number.specs.Text.{digits_after, any_base, at_most, number_rule}

-- what passes the limit is at most the limit
pub within : (limit : ℕ) (o : Outcome ℕ) {v : ℕ} → at_most limit o ≡ granted v → v ≤ limit
unfolding at_most
within limit (granted w) {v} e = step (leb w limit) refl e
  where
    step : (b : Bool) → leb w limit ≡ b → cond b (granted w) (refused Einval) ≡ granted v → v ≤ limit
    step true h e = let q : w ≡ v = cc in omega (arith, leb-true w limit h)
    step false h e = let z : ◌≡◌ {A = ℕ} 0 1 = cc in omega arith
within limit (refused n) {v} e = let z : ◌≡◌ {A = ℕ} 0 1 = cc in omega arith

-- the same behind a test
pub within_if : (b : Bool) (limit : ℕ) (o : Outcome ℕ) {v : ℕ} → cond b (at_most limit o) (refused Einval) ≡ granted v → v ≤ limit
within_if true limit o e = within limit o e
within_if false limit o e = let z : ◌≡◌ {A = ℕ} 0 1 = cc in omega arith

-- a number that is read is at most the limit
pub rule_le : (limit : ℕ) (s : List ℕ) {v : ℕ} → number_rule limit s ≡ granted v → v ≤ limit
unfolding number_rule
rule_le limit s e = within_if (leb (length s) 16) limit (any_base s) e

-- a value above the limit is bad whatever digits follow
pub above : (limit base v : ℕ) (cs : List ℕ) → limit < v → at_most limit (digits_after base v cs) ≡ refused Einval
unfolding digits_after at_most
above limit base v [] h = rw (lt-leb v limit h)
above limit base v (c ∷ cs) h = step (ltb (digit_of c) base) refl (above limit base (v * base + digit_of c) cs)
  where
    rest : Outcome ℕ
    rest = digits_after base (v * base + digit_of c) cs

    step : (b : Bool) → ltb (digit_of c) base ≡ b → (limit < v * base + digit_of c → at_most limit rest ≡ refused Einval) → at_most limit (cond b rest (refused Einval)) ≡ refused Einval
    step true e next =
        let q : digit_of c < base = ltb-true (digit_of c) base e in
        let m : v ≤ v * base = le-mul_of_pos_right v (omega arith) in
        next (omega arith)
    step false e next = refl

-- the value after one more digit
abbrev pub one_more : ℕ → ℕ → ℕ → ℕ → Outcome ℕ
one_more limit base v c = cond (ltb (digit_of c) base) (at_most limit (granted (v * base + digit_of c))) (refused Einval)

-- the digits c ∷ cs: first c, then cs
unfoldable pub and_digits : ℕ → ℕ → List ℕ → Outcome ℕ → Outcome ℕ
and_digits limit base cs (granted v) = at_most limit (digits_after base v cs)
and_digits limit base cs (refused e) = refused e

-- one digit at a time: a value above the limit is refused at once
pub turn : (limit base v c : ℕ) (cs : List ℕ) → at_most limit (digits_after base v (c ∷ cs)) ≡ and_digits limit base cs (one_more limit base v c)
unfolding digits_after at_most and_digits
turn limit base v c cs = step (ltb (digit_of c) base)
  where
    next : ℕ
    next = v * base + digit_of c

    small : (b : Bool) → leb next limit ≡ b → at_most limit (digits_after base next cs) ≡ and_digits limit base cs (cond b (granted next) (refused Einval))
    small true e = refl
    small false e = above limit base next cs (leb-false next limit e)

    step : (b : Bool) → at_most limit (cond b (digits_after base next cs) (refused Einval)) ≡ and_digits limit base cs (cond b (at_most limit (granted next)) (refused Einval))
    step true = small (leb next limit) refl
    step false = refl

-- one digit at a time, over a list from an index on
pub turn_at : (limit base v i : ℕ) (s : List ℕ) → i < length s
    → at_most limit (digits_after base v (drop i s)) ≡ and_digits limit base (drop (i + 1) s) (one_more limit base v (get_or s i 0))
turn_at limit base v i s h = rw (add-one, drop-cons s i 0 h) (turn limit base v (get_or s i 0) (drop (suc i) s))
