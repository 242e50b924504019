-- Laws of the text of a mask: its items, its hex digits.
-- Assumes nothing.
use Rattle.std.proofs.Common.{◌≡◌, ℕ, zero, suc, ◌+◌, ◌-◌, ◌/◌, ◌%◌, ◌<◌, refl, sym, ◌∙◌, arith, add-one, ◌&&◌, ◌||◌, List, [], ◌∷◌, ◌++◌, map, length, get_or, take, drop, drop-cons}
use Rattle.std.proofs.lemmas.Result.{err_from_is_err_and}
use Rattle.std.specs.List.{slice_split, onto_first}
use Rattle.std.specs.Result.{IsErrAnd}
use mathlib.Core.Bool.{or-false}
use mathlib.Core.List.{map-append}
use mathlib.Core.Path.{fun_ext}
use lib.ListN.{length-map}
use lib.Seq.{length-take-le, take-suc}
use lib.Dec.{ltb, eqb, eqb-zero-suc, eqb-suc-zero, eqb-suc-suc}
use Rattle.std.proofs.Common.{Result}
use Rattle.errno.specs.declared.Errno.{Errno}
use Rattle.errno.specs.Outcome.{Outcome, granted, refused}
use Rattle.mask.specs.declared.Mask.{Mask}
use Rattle.mask.specs.Bits.{Bits, digit, bit_at, no_bits, either, group}
use Rattle.mask.proofs.Bit.{digit_zero}
use Rattle.digits.specs.Digits.{digit_of}
use Rattle.masktext.specs.Text.{outcome, all_hex, item, and_then, items, before, parts}

-- what a `?` hands on is the refusal that it was at
pub passed : (r : Result Mask Errno) (e : Errno) → IsErrAnd r (λ y. y ≡ e) → outcome r ≡ refused e
unfolding outcome
passed r e h = let p = err_from_is_err_and r h in rw (p.1, p.2)

-- the parts of a text, as `split` gives them
before_onto : (c : ℕ) (ps : List (List ℕ)) → before c ps ≡ onto_first c ps
unfolding before
before_onto c [] = refl
before_onto c (p ∷ ps) = refl

pub parts_split : (s : List ℕ) → parts s ≡ slice_split (λ c. eqb c 44) s
unfolding parts
parts_split [] = refl
parts_split (c ∷ s) = rw (← parts_split s, before_onto c (parts s))

-- an outcome that is only handed on
and_granted : (o : Outcome Bits) → and_then o granted ≡ o
unfolding and_then
and_granted (granted m) = refl
and_granted (refused e) = refl

-- one item more
items_suc : (m : Bits) (ps : List (List ℕ)) (n : ℕ) (p : List ℕ) → n < length ps → p ≡ get_or ps n p → items m (take (suc n) ps) ≡ and_then (items m (take n ps)) (λ k. item k p)
unfolding items and_then
items_suc m [] n p h e = absurd (omega arith)
items_suc m (q ∷ ps) zero p h e = rw e (and_granted (item m q))
items_suc m (q ∷ ps) (suc n) p h e = step (λ k. items_suc k ps n p (omega arith) e) (item m q)
  where
    step : ((k : Bits) → items k (take (suc n) ps) ≡ and_then (items k (take n ps)) (λ j. item j p)) → (o : Outcome Bits) → and_then o (λ k. items k (take (suc n) ps)) ≡ and_then (and_then o (λ k. items k (take n ps))) (λ k. item k p)
    step f (granted k) = f k
    step f (refused e) = refl

pub items_more : (m k : Bits) (ps : List (List ℕ)) (n : ℕ) (p : List ℕ) → n < length ps → p ≡ get_or ps n p → items m (take n ps) ≡ granted k → items m (take (n + 1) ps) ≡ item k p
unfolding and_then
items_more m k ps n p h e g = rw (add-one, items_suc m ps n p h e, g)

-- an item that is refused ends the list
pub items_bad : (m k : Bits) (ps : List (List ℕ)) (n : ℕ) (p : List ℕ) {e : Errno} → n < length ps → p ≡ get_or ps n p → items m (take n ps) ≡ granted k → item k p ≡ refused e → items m ps ≡ refused e
unfolding items and_then
items_bad m k [] n p h q g b = absurd (omega arith)
items_bad m k (x ∷ ps) zero p {e} h q g b = let same : m ≡ k = cc in let bad : item m x ≡ refused e = rw (same, ← q) b in rw bad
items_bad m k (x ∷ ps) (suc n) p {e} h q g b = step (λ j r. items_bad j k ps n p (omega arith) q r b) (item m x) g
  where
    step : ((j : Bits) → items j (take n ps) ≡ granted k → items j ps ≡ refused e) → (o : Outcome Bits) → and_then o (λ j. items j (take n ps)) ≡ granted k → and_then o (λ j. items j ps) ≡ refused e
    step f (granted j) r = f j r
    step f (refused i) r = cc

-- hex digits, one at a time
pub all_hex_turn : (s : List ℕ) (i : ℕ) → i < length s → all_hex (drop i s) ≡ ltb (digit_of (get_or s i 0)) 16 && all_hex (drop (i + 1) s)
unfolding all_hex
all_hex_turn s i h = rw (add-one, drop-cons s i 0 h)

-- no numbers have no bits
pub bits_none : (w : ℕ) → bit_at w [] ≡ no_bits
unfolding bit_at no_bits
bits_none w = fun_ext (λ i. digit_zero (w - 1 - i % w))

more : (v k : ℕ) (xs : List ℕ) (g : ℕ) → digit (get_or (xs ++ (v ∷ [])) g 0) k ≡ digit (get_or xs g 0) k || (eqb g (length xs) && digit v k)
more v k [] zero = rw digit_zero
more v k [] (suc g) = rw eqb-suc-zero (sym (or-false (digit 0 k)))
more v k (x ∷ xs) zero = rw eqb-zero-suc (sym (or-false (digit x k)))
more v k (x ∷ xs) (suc g) = rw eqb-suc-suc (more v k xs g)

-- one number more sets the bits of the next group
bits_more : (w : ℕ) (xs : List ℕ) (v : ℕ) → bit_at w (xs ++ (v ∷ [])) ≡ either (bit_at w xs) (group w (length xs) v)
unfolding bit_at either group
bits_more w xs v = fun_ext (λ i. more v (w - 1 - i % w) xs (i / w))

-- one digit more
pub hex_turn : (s : List ℕ) (i : ℕ) → i < length s
    → bit_at 4 (map digit_of (take (i + 1) s)) ≡ either (bit_at 4 (map digit_of (take i s))) (group 4 i (digit_of (get_or s i 0)))
hex_turn s i l =
    let q : length (map digit_of (take i s)) ≡ i = length-map (take i s) digit_of ∙ length-take-le i s (omega arith) in
    rw (add-one, take-suc s i 0 l, map-append, bits_more 4 (map digit_of (take i s)) (digit_of (get_or s i 0)), q)
