-- Hex digits, two at a time from the start of a text.
-- Assumes nothing.
use Prim.Native.Nat.{ℕ, suc, ◌+◌, ◌*◌, ◌≤◌, ◌<◌}
use native.Mathlib.Omega.{arith}
use mathlib.Core.Bool.{Bool, true, false, cond, ◌&&◌}
use mathlib.Core.List.{List, [], ◌∷◌, ◌++◌, append-nil}
use mathlib.Core.Path.{◌≡◌, refl, sym, ap, ap₂, ◌∙◌}
use lib.Dec.{ltb}
use lib.ListN.{length, get_or, set, take, drop, drop_of_length-le, length-set}
use lib.Seq.{drop-cons, append_snoc, take-suc-set, take_all}
use borrow.Author.Tests.{eq-eqb, ne_eqb, lt-ltb, le-ltb}
use Rattle.errno.specs.Outcome.{granted, refused}
use Rattle.errno.specs.declared.Errno.{Errno}
use Rattle.errno.specs.declared.Errno.TheVariants.{Einval}
use Rattle.rules.specs.declared.Id.{Id}
use Rattle.fields.specs.Fields.{id_of}
use Rattle.digits.specs.Digits.{digit_of}
use Rattle.masktext.specs.Text.{all_hex}
use Rattle.hexbytes.specs.HexBytes.{byte_pairs, is_hex, bytes_text, id_text}

-- what is found of a text up to byte i of n
pub record Sofar (s out : List ℕ) (n i : ℕ) : Type 0 where
  pub within : i ≤ n
  pub long : length out ≡ n
  pub twice : length s ≡ 2 * n
  pub hex : all_hex s ≡ all_hex (drop (2 * i) s)
  pub bytes : byte_pairs s ≡ take i out ++ byte_pairs (drop (2 * i) s)

-- by whether a text is n bytes in hex
by_hex : (n : ℕ) (s : List ℕ) {b : Bool} → is_hex n s ≡ b → bytes_text n s ≡ cond b (granted (byte_pairs s)) (refused Einval)
unfolding bytes_text
by_hex n s e = ap (λ (b : Bool). cond b (granted (byte_pairs s)) (refused Einval)) e

-- a text of another length
pub other_length : (s : List ℕ) (n : ℕ) → (length s ≡ 2 * n → ⊥) → refused Einval ≡ bytes_text n s
unfolding is_hex
other_length s n h = sym (by_hex n s (ap (λ (b : Bool). b && all_hex s) (ne_eqb (length s) (2 * n) h)))

pub starts : (s out : List ℕ) {n : ℕ} → length out ≡ n → length s ≡ 2 * n → Sofar s out n 0
starts s out l h = record { within = omega arith; long = l; twice = h; hex = refl; bytes = refl }

module _ {s out : List ℕ} {n i : ℕ} (g : Sofar s out n i) (h : i < n) where
  -- the two digits at byte i
  abbrev high : ℕ
  high = get_or s (2 * i) 0

  abbrev low : ℕ
  low = get_or s (2 * i + 1) 0

  two : drop (2 * i) s ≡ high ∷ low ∷ drop (2 * (i + 1)) s
  two =
      let next : suc (2 * i) ≡ 2 * i + 1 = omega arith in
      let last : suc (2 * i + 1) ≡ 2 * (i + 1) = omega arith in
      drop-cons s (2 * i) 0 (omega (arith, g.twice)) ∙ ap (λ (k : ℕ). high ∷ drop k s) next
      ∙ ap (λ (l : List ℕ). high ∷ l) (drop-cons s (2 * i + 1) 0 (omega (arith, g.twice)) ∙ ap (λ (k : ℕ). low ∷ drop k s) last)

  -- a byte that is no digit
  bad : all_hex (drop (2 * i) s) ≡ false → refused Einval ≡ bytes_text n s
  unfolding is_hex
  bad e = sym (by_hex n s (ap₂ ◌&&◌ (eq-eqb (length s) (2 * n) g.twice) (g.hex ∙ e)))

  pub bad_high : {x : ℕ} → x ≡ digit_of high → 15 < x → refused Einval ≡ bytes_text n s
  unfolding all_hex
  bad_high e m = bad (ap all_hex two ∙ ap (λ (b : Bool). b && (ltb (digit_of low) 16 && all_hex (drop (2 * (i + 1)) s))) (le-ltb (digit_of high) 16 (omega arith)))

  pub bad_low : {x y : ℕ} → x ≡ digit_of high → y ≡ digit_of low → x ≤ 15 → 15 < y → refused Einval ≡ bytes_text n s
  unfolding all_hex
  bad_low e f m k =
      bad (ap all_hex two ∙ ap₂ (λ (a b : Bool). a && (b && all_hex (drop (2 * (i + 1)) s))) (lt-ltb (digit_of high) 16 (omega arith)) (le-ltb (digit_of low) 16 (omega arith)))

  -- one byte more
  pub goes_on : {x y : ℕ} → x ≡ digit_of high → y ≡ digit_of low → x ≤ 15 → y ≤ 15 → Sofar s (set out i (x * 16 + y)) n (i + 1)
  unfolding all_hex byte_pairs
  goes_on {x} {y} e f m k =
      let rest = drop (2 * (i + 1)) s in
      let byte = x * 16 + y in
      let next : suc i ≡ i + 1 = omega arith in
      record {
        within = omega arith;
        long = rw length-set g.long;
        twice = g.twice;
        hex = g.hex ∙ ap all_hex two
            ∙ ap₂ (λ (a b : Bool). a && (b && all_hex rest)) (lt-ltb (digit_of high) 16 (omega arith)) (lt-ltb (digit_of low) 16 (omega arith));
        bytes = g.bytes ∙ ap (λ (l : List ℕ). take i out ++ byte_pairs l) two
            ∙ ap₂ (λ (a b : ℕ). take i out ++ (a * 16 + b) ∷ byte_pairs rest) (sym e) (sym f) ∙ sym (append_snoc (take i out) byte (byte_pairs rest))
            ∙ ap (λ (l : List ℕ). l ++ byte_pairs rest) (sym (take-suc-set out i byte (omega (arith, g.long))))
            ∙ ap (λ (j : ℕ). take j (set out i byte) ++ byte_pairs rest) next;
      }

-- all n bytes are found
pub full : {s out : List ℕ} {n i : ℕ} → Sofar s out n i → n ≤ i → granted out ≡ bytes_text n s
unfolding is_hex all_hex byte_pairs
full {s} {out} {n} {i} g h =
    let none : drop (2 * i) s ≡ [] = drop_of_length-le s {i = 2 * i} (omega (arith, g.twice)) in
    let is : byte_pairs s ≡ out = g.bytes ∙ ap (λ (l : List ℕ). take i out ++ byte_pairs l) none ∙ append-nil (take i out) ∙ take_all i out (omega (arith, g.long)) in
    ap granted (sym is) ∙ sym (by_hex n s (ap₂ ◌&&◌ (eq-eqb (length s) (2 * n) g.twice) (g.hex ∙ ap all_hex none)))

-- what comes of the bytes of an id, and of none
module _ (s : List ℕ) {bytes : List ℕ} {x : Id} (e : x ≡ id_of bytes) where
  pub id_good : granted bytes ≡ bytes_text 16 s → granted x ≡ id_text s
  unfolding bytes_text id_text
  id_good h = go (is_hex 16 s) h
    where
      go : (b : Bool) → granted bytes ≡ cond b (granted (byte_pairs s)) (refused Einval) → granted x ≡ cond b (granted (id_of (byte_pairs s))) (refused Einval)
      go true q = cc
      go false q = cc

pub id_bad : (s : List ℕ) (e : Errno) → refused e ≡ bytes_text 16 s → refused e ≡ id_text s
unfolding bytes_text id_text
id_bad s e h = go (is_hex 16 s) h
  where
    go : (b : Bool) → refused e ≡ cond b (granted (byte_pairs s)) (refused Einval) → refused e ≡ cond b (granted (id_of (byte_pairs s))) (refused Einval)
    go true q = cc
    go false q = cc
