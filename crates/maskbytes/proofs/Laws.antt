-- Laws of a mask's groups of four bits and of its bytes.
-- Assumes nothing.
use Prim.Native.Nat.{ℕ, zero, suc, ◌+◌, ◌-◌, ◌*◌, ◌/◌, ◌%◌, ◌^◌, ◌<◌}
use native.Mathlib.Nat.{mod-lt, mul_assoc, mul-one, add-zero, zero-add, add-suc, suc-add, add_assoc, div-one, pow-suc}
use native.Mathlib.Omega.{arith}
use mathlib.Core.Path.{◌≡◌, refl, sym, ap, ap₂, ◌∙◌}
use mathlib.Core.Bool.{Bool, true, false, cond, ◌&&◌, ◌||◌, or-false}
use mathlib.Core.List.{List, ◌∷◌, ◌++◌}
use lib.ListN.{length, get_or, set}
use lib.Dec.{eqb, leb}
use lib.Pow.{pow_pos, shr-shr, split}
use lib.Bits.{bit_or}
use borrow.Author.Tests.{leb-true, eqb-true, eqb-false, lt-ltb, le-leb, ne_eqb}
use borrow.Author.Rules.{elem_Fits}
use mir.Val.{Val}
use mir.Syntax.{w8, w64}
use Rattle.std.specs.Int.{to_be_bytes}
use denote.Laws.{Is}
use denote.Array.{Array}
use denote.Plain.{UInt}
use Rattle.mask.specs.Bits.{Sized, Bits, digit, bit_at, group, number, numbers}
use Rattle.mask.proofs.Bit.{digit_or, digit_past, digit_join, digit_shifted, same_digits}
use Rattle.mask.proofs.Laws.{bit_of, set_bits_lem, number_small, number_digit}

-- ---- a group of four bits

module _ (g v j : ℕ) (small : v < 16) where
  -- in the word of the group, a number that is shifted to the group has the bits of the group
  shifted_group : j / 64 ≡ g / 16 → digit (v * 2 ^ (60 - 4 * (g % 16))) (63 - j % 64) ≡ group 4 g v j
  unfolding group
  shifted_group same = digit_shifted v (60 - 4 * (g % 16)) (63 - j % 64) ∙ go (eqb (j / 4) g) refl
    where
      go : (b : Bool) → eqb (j / 4) g ≡ b
          → (leb (60 - 4 * (g % 16)) (63 - j % 64) && digit v (63 - j % 64 - (60 - 4 * (g % 16)))) ≡ (b && digit v (3 - j % 4))
      go true e =
          let q : j / 4 ≡ g = eqb-true (j / 4) g e in
          let place : 63 - j % 64 - (60 - 4 * (g % 16)) ≡ 3 - j % 4 = omega arith in
          ap₂ ◌&&◌ (le-leb (60 - 4 * (g % 16)) (63 - j % 64) (omega arith)) (ap (digit v) place)
      go false e = past (leb (60 - 4 * (g % 16)) (63 - j % 64)) refl
        where
          past : (t : Bool) → leb (60 - 4 * (g % 16)) (63 - j % 64) ≡ t → (t && digit v (63 - j % 64 - (60 - 4 * (g % 16)))) ≡ false
          past true l =
              let apart : j / 4 ≡ g → ⊥ = eqb-false (j / 4) g e in
              digit_past 4 (63 - j % 64 - (60 - 4 * (g % 16))) small (omega (arith, leb-true (60 - 4 * (g % 16)) (63 - j % 64) l))
          past false l = refl

  -- in any other word the group has none
  other_group : (j / 64 ≡ g / 16 → ⊥) → group 4 g v j ≡ false
  unfolding group
  other_group n = ap (λ (b : Bool). b && digit v (3 - j % 4)) (ne_eqb (j / 4) g (λ q. n (omega arith)))

  -- the bits with the group's also set
  pub group_set : (xs : List ℕ) → g / 16 < length xs
      → bit_at 64 (set xs (g / 16) (bit_or (get_or xs (g / 16) 0) (v * 2 ^ (60 - 4 * (g % 16))))) j ≡ (bit_at 64 xs j || group 4 g v j)
  unfolding bit_at
  group_set xs h = set_bits_lem 64 (g / 16) (bit_or (get_or xs (g / 16) 0) (v * 2 ^ (60 - 4 * (g % 16)))) j xs h ∙ go (eqb (j / 64) (g / 16)) refl
    where
      go : (b : Bool) → eqb (j / 64) (g / 16) ≡ b
          → cond b (digit (bit_or (get_or xs (g / 16) 0) (v * 2 ^ (60 - 4 * (g % 16)))) (63 - j % 64)) (bit_at 64 xs j) ≡ (bit_at 64 xs j || group 4 g v j)
      go true e =
          let q : j / 64 ≡ g / 16 = eqb-true (j / 64) (g / 16) e in
          digit_or (get_or xs (g / 16) 0) (v * 2 ^ (60 - 4 * (g % 16))) (63 - j % 64)
          ∙ ap₂ ◌||◌ (ap (λ (k : ℕ). digit (get_or xs k 0) (63 - j % 64)) (sym q)) (shifted_group q)
      go false e = sym (ap (λ (b : Bool). bit_at 64 xs j || b) (other_group (eqb-false (j / 64) (g / 16) e)) ∙ or-false (bit_at 64 xs j))

-- ---- numbers packed from bits

-- a number is packed from bits where it has them
pub packed : (w x : ℕ) (m : Bits) (k : ℕ) → x < 2 ^ w → ((j : ℕ) → j < w → digit x (w - 1 - j) ≡ m (k + j)) → x ≡ number w m k
packed w x m k h e =
    same_digits w x (number w m k) h (number_small w m k)
    (λ i l.
    let back : w - 1 - (w - 1 - i) ≡ i = omega arith in
    let below : w - 1 - i < w = omega arith in
    sym (ap (digit x) back) ∙ e (w - 1 - i) below ∙ sym (number_digit w m k (w - 1 - i) below) ∙ ap (digit (number w m k)) back)

-- one of some numbers is packed from its own bits
pub own_bits : (w q : ℕ) (xs : List ℕ) → get_or xs q 0 < 2 ^ w → get_or xs q 0 ≡ number w (bit_at w xs) (q * w)
own_bits w q xs h = packed w (get_or xs q 0) (bit_at w xs) (q * w) h (λ j l. sym (bit_of w q j xs l))

-- a number is packed from its first a bits and from the c that follow
pub joined : (a c : ℕ) (m : Bits) (k : ℕ) → number (a + c) m k ≡ number a m k * 2 ^ c + number c m (k + a)
unfolding number
joined a zero m k = ap (λ (n : ℕ). number n m k) (add-zero a) ∙ sym (add-zero (number a m k * 1) ∙ mul-one (number a m k))
joined a (suc c) m k =
    ap (λ (n : ℕ). number n m k) (add-suc a c)
    ∙ ap₂ (λ (x i : ℕ). x * 2 + cond (m i) 1 0) (joined a c m k) (sym (add_assoc k a c))
    ∙ omega (arith, mul_assoc (number a m k) (2 ^ c) 2, ap (λ (p : ℕ). number a m k * p) (pow-suc 2 c))

-- 32 bytes, by what owning them tells: `c.good` of a parameter
pub bytes_words : (b : List ℕ) {vs : List Val} → Is (Array (UInt w8) 32) b vs → Sized 8 32 b
bytes_words b h = record { long = h.1.0.1; small = λ k. (elem_Fits w8 w8 b h.0 k h.1.1 tt).fits }

-- four bytes and eight bytes that follow each other
module _ (b : List ℕ) (small : (k : ℕ) → get_or b k 0 < 2 ^ 8) where
  four_packed : (i j k l : ℕ) → j ≡ i + 1 → k ≡ i + 2 → l ≡ i + 3
      → ((get_or b i 0 * 256 + get_or b j 0) * 256 + get_or b k 0) * 256 + get_or b l 0 ≡ number 32 (bit_at 8 b) (i * 8)
  four_packed i j k l ej ek el =
      sym
      (joined 24 8 (bit_at 8 b) (i * 8)
      ∙ ap₂ (λ (x y : ℕ). x * 256 + y)
      (joined 16 8 (bit_at 8 b) (i * 8)
      ∙ ap₂ (λ (x y : ℕ). x * 256 + y)
      (joined 8 8 (bit_at 8 b) (i * 8) ∙ ap₂ (λ (x y : ℕ). x * 256 + y) (own i (i * 8) refl) (own j (i * 8 + 8) (omega arith)))
      (own k (i * 8 + 16) (omega arith)))
      (own l (i * 8 + 24) (omega arith)))
    where
      own : (p at : ℕ) → at ≡ p * 8 → number 8 (bit_at 8 b) at ≡ get_or b p 0
      own p at e = ap (number 8 (bit_at 8 b)) e ∙ sym (own_bits 8 p b (small p))

  pub eight_packed : (q x : ℕ)
      → x ≡ (((get_or b (8 * q) 0 * 256 + get_or b (8 * q + 1) 0) * 256 + get_or b (8 * q + 2) 0) * 256 + get_or b (8 * q + 3) 0) * 4294967296
      + (((get_or b (8 * q + 4) 0 * 256 + get_or b (8 * q + 5) 0) * 256 + get_or b (8 * q + 6) 0) * 256 + get_or b (8 * q + 7) 0)
      → x ≡ number 64 (bit_at 8 b) (q * 64)
  eight_packed q x e =
      e
      ∙ ap₂ (λ (x y : ℕ). x * 4294967296 + y)
      (four_packed (8 * q) (8 * q + 1) (8 * q + 2) (8 * q + 3) refl refl refl ∙ ap (number 32 (bit_at 8 b)) (omega arith))
      (four_packed (8 * q + 4) (8 * q + 5) (8 * q + 6) (8 * q + 7) (omega arith) (omega arith) (omega arith) ∙ ap (number 32 (bit_at 8 b)) (omega arith))
      ∙ sym (joined 32 32 (bit_at 8 b) (q * 64))

-- ---- the bytes of a word

-- n digits of a number from digit s on
digit_field : (x s n k : ℕ) → k < n → digit (x / 2 ^ s % 2 ^ n) k ≡ digit x (s + k)
unfolding digit
digit_field x s n k l =
    sym
    (ap (λ (y : ℕ). digit y k) (sym (split (x / 2 ^ s) n))
    ∙ digit_join (x / 2 ^ s / 2 ^ n) n (x / 2 ^ s % 2 ^ n) k (mod-lt (x / 2 ^ s) (pow_pos n))
    ∙ ap (λ (b : Bool). cond b (digit (x / 2 ^ s % 2 ^ n) k) (digit (x / 2 ^ s / 2 ^ n) (k - n))) (lt-ltb k n l))
    ∙ ap (λ (y : ℕ). eqb (y % 2) 1) (shr-shr x s k)

-- byte r of word q
word_byte : (q r : ℕ) (xs : List ℕ) → r < 8 → (k : ℕ) → k ≡ q * 64 + 8 * r
    → get_or xs q 0 / 2 ^ (56 - 8 * r) % 256 ≡ number 8 (bit_at 64 xs) k
word_byte q r xs h k e = packed 8 (x / 2 ^ s % 256) (bit_at 64 xs) k (mod-lt (x / 2 ^ s) (pow_pos 8)) at
  where
    x : ℕ
    x = get_or xs q 0

    s : ℕ
    s = 56 - 8 * r

    at : (j : ℕ) → j < 8 → digit (x / 2 ^ s % 256) (7 - j) ≡ bit_at 64 xs (k + j)
    at j l =
        let place : s + (7 - j) ≡ 63 - (8 * r + j) = omega arith in
        let whole : q * 64 + (8 * r + j) ≡ k + j = omega arith in
        digit_field x s 8 (7 - j) (omega arith) ∙ ap (digit x) place
        ∙ sym (bit_of 64 q (8 * r + j) xs (omega arith)) ∙ ap (bit_at 64 xs) whole

-- the bytes of word q
pub word_bytes : (q : ℕ) (xs : List ℕ) → to_be_bytes w64 (get_or xs q 0) ≡ numbers 8 8 (bit_at 64 xs) (q * 64)
unfolding numbers
word_bytes q xs =
    ap₂ ◌∷◌ (at 0 (q * 64) (omega arith) (omega arith))
    (ap₂ ◌∷◌ (at 1 (q * 64 + 8) (omega arith) (omega arith))
    (ap₂ ◌∷◌ (at 2 (q * 64 + 8 + 8) (omega arith) (omega arith))
    (ap₂ ◌∷◌ (at 3 (q * 64 + 8 + 8 + 8) (omega arith) (omega arith))
    (ap₂ ◌∷◌ (at 4 (q * 64 + 8 + 8 + 8 + 8) (omega arith) (omega arith))
    (ap₂ ◌∷◌ (at 5 (q * 64 + 8 + 8 + 8 + 8 + 8) (omega arith) (omega arith))
    (ap₂ ◌∷◌ (at 6 (q * 64 + 8 + 8 + 8 + 8 + 8 + 8) (omega arith) (omega arith))
    (ap₂ ◌∷◌ (ap (λ (n : ℕ). n % 256) (sym (div-one (get_or xs q 0))) ∙ at 7 (q * 64 + 8 + 8 + 8 + 8 + 8 + 8 + 8) (omega arith) (omega arith)) refl)))))))
  where
    at : (r k : ℕ) → r < 8 → k ≡ q * 64 + 8 * r → get_or xs q 0 / 2 ^ (56 - 8 * r) % 256 ≡ number 8 (bit_at 64 xs) k
    at r k h e = word_byte q r xs h k e

-- numbers packed from bits, and those that follow
numbers_add : (w a b : ℕ) (m : Bits) (k : ℕ) → numbers w (a + b) m k ≡ numbers w a m k ++ numbers w b m (k + a * w)
unfolding numbers
numbers_add w zero b m k = ap₂ (λ (n i : ℕ). numbers w n m i) (zero-add b) (omega arith)
numbers_add w (suc a) b m k =
    ap (λ (n : ℕ). numbers w n m k) (suc-add a b)
    ∙ ap (λ (xs : List ℕ). number w m k ∷ xs) (numbers_add w a b m (k + w) ∙ ap (λ (i : ℕ). numbers w a m (k + w) ++ numbers w b m i) (omega arith))

-- one word's bytes more
pub words_more : (q : ℕ) (m : Bits) → numbers 8 (8 * (q + 1)) m 0 ≡ numbers 8 (8 * q) m 0 ++ numbers 8 8 m (q * 64)
words_more q m =
    let n : 8 * (q + 1) ≡ 8 * q + 8 = omega arith in
    let i : 0 + 8 * q * 8 ≡ q * 64 = omega arith in
    ap (λ (x : ℕ). numbers 8 x m 0) n ∙ numbers_add 8 (8 * q) 8 m 0 ∙ ap (λ (x : ℕ). numbers 8 (8 * q) m 0 ++ numbers 8 8 m x) i
