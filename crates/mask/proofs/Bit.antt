-- The binary digits of a number: of the word operations, of powers of two, and of a number put together from two.
-- Assumes nothing.
use Prim.Native.Nat.{ℕ, zero, suc, ◌+◌, ◌-◌, ◌*◌, ◌/◌, ◌%◌, ◌^◌, ◌≤◌, ◌<◌, zero-le, suc-le-suc, min, max}
use native.Mathlib.Nat.{mod-lt, zero-lt-suc, zero-div, div-one, div-eq_of_lt, lt_of_lt_of_le, mul-add-div_right, mul-add-mod_self_right, mul_assoc, add-zero, one-mul, le_refl, div-add-mod'}
use native.Mathlib.Numerals.{add-one, one-add}
use native.Mathlib.Omega.{arith}
use mathlib.Core.Path.{◌≡◌, refl, sym, ap, ap₂, subst, ◌∙◌}
use mathlib.Core.Bool.{Bool, true, false, cond, not, ◌&&◌, ◌||◌}
use lib.Dec.{eqb, ltb, leb, eqb-suc-zero}
use lib.Arith.{lt-one, digits_div}
use lib.Pow.{shl_exact, pow_pos, pow_mono, pow-add, shr-shr, shr_lt, high, ones_lt, ones_split}
use lib.Bits.{bit_and, bit_or, bit_xor, differ, and_shr, or_shr, xor_shr, and_step, or_step, xor_step, and_self, xor_add_and}
use Rattle.std.proofs.lemmas.Nat.{and_comm, and_assoc, and-not}
use borrow.Author.Tests.{leb-true, leb-false, ltb-true, ltb-false, eqb-true, eqb-false, eq-eqb, ne_eqb}
use Rattle.mask.specs.Bits.{digit}

two_pos : 0 < 2
two_pos = zero-lt-suc 1

-- ---- the word operations, digit by digit

module _ (op f : ℕ → ℕ → ℕ) (g : Bool → Bool → Bool)
    (shr : (a b k : ℕ) → op a b / 2 ^ k ≡ op (a / 2 ^ k) (b / 2 ^ k))
    (step : (a b : ℕ) → op a b ≡ op (a / 2) (b / 2) * 2 + f (a % 2) (b % 2))
    (test : (x y : ℕ) → x < 2 → y < 2 → eqb (f x y % 2) 1 ≡ g (eqb x 1) (eqb y 1)) where
  digit_op : (a b k : ℕ) → digit (op a b) k ≡ g (digit a k) (digit b k)
  unfolding digit
  digit_op a b k =
      ap (λ (x : ℕ). eqb (x % 2) 1) (shr a b k ∙ step (a / 2 ^ k) (b / 2 ^ k))
      ∙ ap (λ (x : ℕ). eqb x 1) (mul-add-mod_self_right (op (a / 2 ^ k / 2) (b / 2 ^ k / 2)) 2 (f (a / 2 ^ k % 2) (b / 2 ^ k % 2)))
      ∙ test (a / 2 ^ k % 2) (b / 2 ^ k % 2) (mod-lt (a / 2 ^ k) two_pos) (mod-lt (b / 2 ^ k) two_pos)

-- what holds of 0 and of 1
two : (P : ℕ → Type 0) → P 0 → P 1 → (x : ℕ) → x < 2 → P x
two P a b zero h = a
two P a b (suc zero) h = b
two P a b (suc (suc x)) h = absurd (omega arith)

four : (P : ℕ → ℕ → Type 0) → P 0 0 → P 0 1 → P 1 0 → P 1 1 → (x y : ℕ) → x < 2 → y < 2 → P x y
four P a b c d x y hx hy = two (λ (n : ℕ). P n y) (two (P 0) a b y hy) (two (P 1) c d y hy) x hx

pub digit_and : (a b k : ℕ) → digit (bit_and a b) k ≡ (digit a k && digit b k)
digit_and =
    digit_op bit_and min ◌&&◌ and_shr and_step
    (four (λ (x y : ℕ). eqb (min x y % 2) 1 ≡ (eqb x 1 && eqb y 1)) refl refl refl refl)

pub digit_or : (a b k : ℕ) → digit (bit_or a b) k ≡ (digit a k || digit b k)
digit_or =
    digit_op bit_or max ◌||◌ or_shr or_step
    (four (λ (x y : ℕ). eqb (max x y % 2) 1 ≡ (eqb x 1 || eqb y 1)) refl refl refl refl)

abbrev unlike : Bool → Bool → Bool
unlike a b = cond a (not b) b

digit_xor : (a b k : ℕ) → digit (bit_xor a b) k ≡ unlike (digit a k) (digit b k)
digit_xor =
    digit_op bit_xor differ unlike xor_shr xor_step
    (four (λ (x y : ℕ). eqb (differ x y % 2) 1 ≡ unlike (eqb x 1) (eqb y 1)) refl refl refl refl)

unlike_and : (a b : Bool) → unlike a (a && b) ≡ (a && not b)
unlike_and true b = refl
unlike_and false b = refl

-- `a & !b` at w bits: a with the digits of b cleared
pub digit_clear : (w a b k : ℕ) → a < 2 ^ w → b < 2 ^ w → digit (bit_and a (2 ^ w - 1 - b)) k ≡ (digit a k && not (digit b k))
digit_clear w a b k ha hb =
    ap (λ (x : ℕ). digit x k) cleared
    ∙ digit_xor a (bit_and a b) k ∙ ap (λ (d : Bool). unlike (digit a k) d) (digit_and a b k) ∙ unlike_and (digit a k) (digit b k)
  where
    twice : bit_and a (bit_and a b) ≡ bit_and a b
    twice = sym (and_assoc b a a) ∙ ap (λ (x : ℕ). bit_and x b) (and_self a)

    cleared : bit_and a (2 ^ w - 1 - b) ≡ bit_xor a (bit_and a b)
    cleared = omega (arith, and_comm a (2 ^ w - 1 - b), and_comm b a, and-not w b a hb ha, xor_add_and a (bit_and a b), twice)

-- ---- a number put together from a high part h and t digits v

pub digit_zero : (k : ℕ) → digit 0 k ≡ false
unfolding digit
digit_zero k = ap (λ (x : ℕ). eqb (x % 2) 1) (zero-div (2 ^ k))

-- there are no digits past a number's width
pub digit_past : {x : ℕ} (w k : ℕ) → x < 2 ^ w → w ≤ k → digit x k ≡ false
unfolding digit
digit_past w k h l = ap (λ (x : ℕ). eqb (x % 2) 1) (div-eq_of_lt (lt_of_lt_of_le h (pow_mono l)))

digit_shr : (x j k : ℕ) → digit (x / 2 ^ j) k ≡ digit x (j + k)
unfolding digit
digit_shr x j k = ap (λ (y : ℕ). eqb (y % 2) 1) (shr-shr x j k)

join_low : (h t v k : ℕ) → k < t → digit (h * 2 ^ t + v) k ≡ digit v k
unfolding digit
join_low h t v k l =
    ap (λ (n : ℕ). eqb ((h * n + v) / 2 ^ k % 2) 1) (ap (λ (n : ℕ). 2 ^ n) apart ∙ pow-add 2 ((t - suc k + 1)) k)
    ∙ ap (λ (n : ℕ). eqb ((n + v) / 2 ^ k % 2) 1) (sym (mul_assoc h (2 ^ (t - suc k + 1)) (2 ^ k)))
    ∙ ap (λ (n : ℕ). eqb (n % 2) 1) (mul-add-div_right (pow_pos k) (h * 2 ^ (t - suc k + 1)) v)
    ∙ ap (λ (n : ℕ). eqb ((n + v / 2 ^ k) % 2) 1) (ap (λ (n : ℕ). h * n) (pow-add 2 (t - suc k) 1) ∙ sym (mul_assoc h (2 ^ (t - suc k)) 2))
    ∙ ap (λ (n : ℕ). eqb n 1) (mul-add-mod_self_right (h * 2 ^ (t - suc k)) 2 (v / 2 ^ k))
  where
    apart : t ≡ t - suc k + 1 + k
    apart = omega arith

join_high : (h t v k : ℕ) → v < 2 ^ t → t ≤ k → digit (h * 2 ^ t + v) k ≡ digit h (k - t)
join_high h t v k hv l =
    ap (digit (h * 2 ^ t + v)) apart ∙ sym (digit_shr (h * 2 ^ t + v) t (k - t)) ∙ ap (λ (x : ℕ). digit x (k - t)) (high h t hv)
  where
    apart : k ≡ t + (k - t)
    apart = omega arith

pub digit_join : (h t v k : ℕ) → v < 2 ^ t → digit (h * 2 ^ t + v) k ≡ cond (ltb k t) (digit v k) (digit h (k - t))
digit_join h t v k hv = go (ltb k t) refl
  where
    go : (b : Bool) → ltb k t ≡ b → digit (h * 2 ^ t + v) k ≡ cond b (digit v k) (digit h (k - t))
    go true e = join_low h t v k (ltb-true k t e)
    go false e = join_high h t v k hv (ltb-false k t e)

pub digit_shifted : (v s k : ℕ) → digit (v * 2 ^ s) k ≡ (leb s k && digit v (k - s))
digit_shifted v s k = go (leb s k) refl
  where
    go : (b : Bool) → leb s k ≡ b → digit (v * 2 ^ s) k ≡ (b && digit v (k - s))
    go true e = ap (λ (n : ℕ). digit n k) (sym (add-zero (v * 2 ^ s))) ∙ join_high v s 0 k (pow_pos s) (leb-true s k e)
    go false e = ap (λ (n : ℕ). digit n k) (sym (add-zero (v * 2 ^ s))) ∙ join_low v s 0 k (leb-false s k e) ∙ digit_zero k

-- ---- powers of two

digit_one : (k : ℕ) → digit 1 k ≡ eqb k 0
unfolding digit
digit_one zero = refl
digit_one (suc k) =
    digit_past 1 (suc k) (le_refl 2) (suc-le-suc zero-le) ∙ sym (eqb-suc-zero k)

pub digit_pow : (s k : ℕ) → digit (2 ^ s) k ≡ eqb k s
digit_pow s k = ap (λ (n : ℕ). digit n k) (sym (one-mul (2 ^ s))) ∙ digit_shifted 1 s k ∙ go (leb s k) refl
  where
    go : (b : Bool) → leb s k ≡ b → (b && digit 1 (k - s)) ≡ eqb k s
    go true e = digit_one (k - s) ∙ same (eqb k s) refl
      where
        same : (b : Bool) → eqb k s ≡ b → eqb (k - s) 0 ≡ eqb k s
        same true q = eq-eqb (k - s) 0 (omega (arith, eqb-true k s q)) ∙ sym q
        same false q = ne_eqb (k - s) 0 (λ z. eqb-false k s q (omega (arith, leb-true s k e))) ∙ sym q
    go false e = sym (ne_eqb k s (omega (arith, leb-false s k e)))

ones_low : (s k : ℕ) → k < s → digit (2 ^ s - 1) k ≡ true
unfolding digit
ones_low s k l =
    ap (λ (n : ℕ). digit (2 ^ n - 1) k) apart
    ∙ ap (λ (n : ℕ). digit n k) (ones_split (s - suc k + 1) k)
    ∙ join_high (2 ^ (s - suc k + 1) - 1) k (2 ^ k - 1) k (ones_lt k) (le_refl k)
    ∙ ap (digit (2 ^ (s - suc k + 1) - 1)) none
    ∙ ap (λ (n : ℕ). digit n 0) (ones_split (s - suc k) 1)
    ∙ join_low (2 ^ (s - suc k) - 1) 1 1 0 (zero-lt-suc 0)
  where
    apart : s ≡ s - suc k + 1 + k
    apart = omega arith

    none : k - k ≡ 0
    none = omega arith

pub digit_ones : (s k : ℕ) → digit (2 ^ s - 1) k ≡ ltb k s
digit_ones s k = go (ltb k s) refl
  where
    go : (b : Bool) → ltb k s ≡ b → digit (2 ^ s - 1) k ≡ b
    go true e = ones_low s k (ltb-true k s e)
    go false e = digit_past s k (ones_lt s) (ltb-false k s e)

-- `1 << s`
pub one_shl : (w s : ℕ) → s < w → 1 * 2 ^ s % 2 ^ w ≡ 2 ^ s
one_shl w s h = shl_exact 1 s w (le_refl 2) (omega arith) ∙ one-mul (2 ^ s)

-- ---- a number by its digits

-- the digits of a number are the lowest and those of its half
pub digit_half : (x k : ℕ) → digit (x / 2) k ≡ digit x (suc k)
digit_half x k = digit_shr x 1 k ∙ ap (digit x) (one-add k)

pub half_small : (x w : ℕ) → x < 2 ^ suc w → x / 2 < 2 ^ w
half_small x w h = shr_lt w 1 (subst (λ (n : ℕ). x < 2 ^ n) (sym (add-one w)) h)

-- the lowest digit
pub digit_mod : (x : ℕ) → cond (digit x 0) 1 0 ≡ x % 2
unfolding digit
digit_mod x =
    ap (λ (y : ℕ). cond (eqb (y % 2) 1) 1 0) (div-one x) ∙ two (λ (y : ℕ). cond (eqb y 1) 1 0 ≡ y) refl refl (x % 2) (mod-lt x two_pos)

-- a number with one digit more, c, below
pub digit_snoc : (h : ℕ) (c : Bool) (k : ℕ) → digit (h * 2 + cond c 1 0) (suc k) ≡ digit h k
digit_snoc h true k = sym (digit_half (h * 2 + 1) k) ∙ ap (λ (x : ℕ). digit x k) (digits_div h (le_refl 2))
digit_snoc h false k = sym (digit_half (h * 2 + 0) k) ∙ ap (λ (x : ℕ). digit x k) (digits_div h (zero-lt-suc 1))

pub digit_last : (h : ℕ) (c : Bool) → digit (h * 2 + cond c 1 0) 0 ≡ c
unfolding digit
digit_last h true = join_low h 1 1 0 (zero-lt-suc 0)
digit_last h false = join_low h 1 0 0 (zero-lt-suc 0)

-- numbers of w digits are equal where their digits are
pub same_digits : (w x y : ℕ) → x < 2 ^ w → y < 2 ^ w → ((k : ℕ) → k < w → digit x k ≡ digit y k) → x ≡ y
same_digits zero x y hx hy e = lt-one hx ∙ sym (lt-one hy)
same_digits (suc w) x y hx hy e =
    sym (div-add-mod' x 2)
    ∙ ap₂ (λ (a b : ℕ). a * 2 + b)
    (same_digits w (x / 2) (y / 2) (half_small x w hx) (half_small y w hy)
    (λ k l. digit_half x k ∙ e (suc k) (suc-le-suc l) ∙ sym (digit_half y k)))
    (sym (digit_mod x) ∙ ap (λ (b : Bool). cond b 1 0) (e 0 (suc-le-suc zero-le)) ∙ digit_mod y)
    ∙ div-add-mod' y 2

-- a number of w digits that is not 0 has a digit set
pub some_digit : (w x : ℕ) → x < 2 ^ w → (x ≡ 0 → ⊥) → (k : ℕ) × (k < w) × (digit x k ≡ true)
some_digit zero x h n = absurd (n (lt-one h))
some_digit (suc w) x h n = go (digit x 0) refl (some_digit w (x / 2) (half_small x w h))
  where
    go : (b : Bool) → digit x 0 ≡ b → ((x / 2 ≡ 0 → ⊥) → (k : ℕ) × (k < w) × (digit (x / 2) k ≡ true))
        → (k : ℕ) × (k < suc w) × (digit x k ≡ true)
    go true e rest = (0, suc-le-suc zero-le, e)
    go false e rest =
        let even : x % 2 ≡ 0 = sym (digit_mod x) ∙ ap (λ (b : Bool). cond b 1 0) e in
        let (k, l, d) = rest (λ z. n (omega arith)) in
        (suc k, suc-le-suc l, sym (digit_half x k) ∙ d)
