-- The bits of numbers of w bits each: one by one, some of them, how many of them, and numbers packed from bits.
-- Assumes nothing.
use Prim.Native.Nat.{ℕ, zero, suc, ◌+◌, ◌-◌, ◌*◌, ◌/◌, ◌%◌, ◌^◌, ◌≤◌, ◌<◌, zero-le, suc-le-suc}
use native.Mathlib.Nat.{le_refl, le_of_suc-le-suc, not-suc-le-zero, eq-or-lt_of_le, add-zero, add-suc, zero-add, add_assoc, add_comm, pow-suc, mod-lt, div-add-mod', le-div_iff_mul-le, div-lt_iff_lt-mul}
use native.Mathlib.Omega.{arith}
use mathlib.Core.Path.{◌≡◌, refl, sym, ap, ap₂, subst, fun_ext, ◌∙◌}
use mathlib.Core.Logic.{◌⊎◌, inl, inr}
use mathlib.Core.Bool.{Bool, true, false, cond, not, ◌&&◌, ◌||◌, or-true, or-false, or_comm, or_assoc, and_comm, true≢false}
use mathlib.Core.List.{List, [], ◌∷◌, map}
use lib.ListN.{length, get_or, set, replicate, get_or-replicate, get_or-eq_default}
use lib.Seq.{ext_get_or, get_or-set_same, get_or-set_other}
use lib.Dec.{eqb, ltb}
use lib.Arith.{lt-one, digits_lt, digits_div, digits_mod}
use lib.Pow.{pow_pos, pow-lt}
use lib.Bits.{bit_and, bit_or, or_add_and, and_le_l, and_le_r}
use lib.Count.{ones, ones_in, ones_step}
use borrow.Author.Rules.{rules, elem_Fits}
use borrow.Author.Tests.{ltb-true, ltb-false, eqb-true, eqb-false, eq-eqb, ne_eqb, lt-ltb, le-ltb}
use mir.Val.{Val}
use mir.Syntax.{w64}
use denote.Laws.{Is}
use Rattle.mask.specs.declared.Mask.{Mask}
use Rattle.mask.specs.contracts.Mask.{the_row}
use Rattle.mask.specs.Bits.{Small, Sized, Bits, digit, bit_at, bits, no_bits, all_bits, included, excluded, some_below, count_below, number, numbers}
use Rattle.mask.proofs.Bit.{digit_or, digit_clear, digit_zero, digit_ones, digit_pow, digit_mod, digit_half, half_small, digit_snoc, digit_last, same_digits, some_digit}

-- two tests that follow from each other are one
pub same_test : {a b : Bool} → (a ≡ true → b ≡ true) → (b ≡ true → a ≡ true) → a ≡ b
same_test {a} {b} f g = go a b f g
  where
    go : (a b : Bool) → (a ≡ true → b ≡ true) → (b ≡ true → a ≡ true) → a ≡ b
    go true b f g = sym (f refl)
    go false true f g = g refl
    go false false f g = refl

-- ---- the bits of a list of numbers

-- bit j of number q
pub bit_of : (w q j : ℕ) (xs : List ℕ) → j < w → bit_at w xs (q * w + j) ≡ digit (get_or xs q 0) (w - 1 - j)
unfolding bit_at
bit_of w q j xs h = ap₂ (λ (a b : ℕ). digit (get_or xs a 0) (w - 1 - b)) (digits_div q h) (digits_mod q h)

-- lists with the same bits are equal
pub same_bits : {w n : ℕ} {xs ys : List ℕ} → 0 < w → Sized w n xs → Sized w n ys
    → ((i : ℕ) → i < n * w → bit_at w xs i ≡ bit_at w ys i) → xs ≡ ys
same_bits {w} {n} {xs} {ys} p hx hy e =
    ext_get_or 0 xs ys (hx.long ∙ sym hy.long)
    (λ q l. same_digits w (get_or xs q 0) (get_or ys q 0) (hx.small q) (hy.small q) (λ k lk. at q k (subst (λ (m : ℕ). q < m) hx.long l) lk))
  where
    at : (q k : ℕ) → q < n → k < w → digit (get_or xs q 0) k ≡ digit (get_or ys q 0) k
    at q k l lk =
        let back : k ≡ w - 1 - (w - 1 - k) = omega arith in
        let below : w - 1 - k < w = omega arith in
        ap (digit (get_or xs q 0)) back ∙ sym (bit_of w q (w - 1 - k) xs below) ∙ e (q * w + (w - 1 - k)) (digits_lt l below)
        ∙ bit_of w q (w - 1 - k) ys below ∙ ap (digit (get_or ys q 0)) (sym back)

-- no number past the last
none_at : {n q : ℕ} (xs : List ℕ) (k : ℕ) → length xs ≡ n → n ≤ q → digit (get_or xs q 0) k ≡ false
none_at {n} {q} xs k e h =
    ap (λ (x : ℕ). digit x k) (get_or-eq_default xs 0 {n = q} (subst (λ (m : ℕ). m ≤ q) (sym e) h)) ∙ digit_zero k

-- no bit past the last number
pub past_end : {w n : ℕ} {xs : List ℕ} (i : ℕ) → 0 < w → Sized w n xs → n * w ≤ i → bit_at w xs i ≡ false
unfolding bit_at
past_end {w} {n} {xs} i p r h = none_at xs (w - 1 - i % w) r.long ((le-div_iff_mul-le p).1 h)

-- the bits with number q set to v
pub set_bits_lem : (w q v i : ℕ) (xs : List ℕ) → q < length xs
    → bit_at w (set xs q v) i ≡ cond (eqb (i / w) q) (digit v (w - 1 - i % w)) (bit_at w xs i)
unfolding bit_at
set_bits_lem w q v i xs h = go (eqb (i / w) q) refl
  where
    go : (b : Bool) → eqb (i / w) q ≡ b
        → digit (get_or (set xs q v) (i / w) 0) (w - 1 - i % w) ≡ cond b (digit v (w - 1 - i % w)) (digit (get_or xs (i / w) 0) (w - 1 - i % w))
    go true e =
        ap (λ (x : ℕ). digit x (w - 1 - i % w)) (ap (λ (k : ℕ). get_or (set xs q v) k 0) (eqb-true (i / w) q e) ∙ get_or-set_same xs q v 0 h)
    go false e = ap (λ (x : ℕ). digit x (w - 1 - i % w)) (get_or-set_other xs q (i / w) v 0 (eqb-false (i / w) q e))

-- two bits of one number are the same bit where they have the same digit
same_place : (w i j : ℕ) → 0 < w → j / w ≡ i / w → eqb (w - 1 - j % w) (w - 1 - i % w) ≡ eqb j i
same_place w i j p e =
    same_test
    (λ q.
    let digits : w - 1 - j % w ≡ w - 1 - i % w = eqb-true (w - 1 - j % w) (w - 1 - i % w) q in
    let rests : j % w ≡ i % w = omega (arith, mod-lt j p, mod-lt i p) in
    eq-eqb j i (sym (div-add-mod' j w) ∙ ap₂ (λ (a b : ℕ). a * w + b) e rests ∙ div-add-mod' i w))
    (λ q. eq-eqb (w - 1 - j % w) (w - 1 - i % w) (ap (λ (k : ℕ). w - 1 - k % w) (eqb-true j i q)))

other_place : (w i j : ℕ) → eqb (j / w) (i / w) ≡ false → eqb j i ≡ false
other_place w i j e = ne_eqb j i (λ q. eqb-false (j / w) (i / w) e (ap (λ (k : ℕ). k / w) q))

-- bit i of numbers put, by an operation with its digit that works digit by digit
bit_put : (op : ℕ → ℕ → ℕ) (g : Bool → Bool → Bool) → (w : ℕ)
    → ((a b k : ℕ) → a < 2 ^ w → b < 2 ^ w → digit (op a b) k ≡ g (digit b k) (digit a k)) → ((b : Bool) → g false b ≡ b)
    → (i j : ℕ) (xs : List ℕ) → 0 < w → Small w xs → i / w < length xs
    → bit_at w (set xs (i / w) (op (get_or xs (i / w) 0) (2 ^ (w - 1 - i % w)))) j ≡ g (eqb j i) (bit_at w xs j)
unfolding bit_at
bit_put op g w law none i j xs p small h = set_bits_lem w (i / w) (op (get_or xs (i / w) 0) (2 ^ (w - 1 - i % w))) j xs h ∙ go (eqb (j / w) (i / w)) refl
  where
    go : (b : Bool) → eqb (j / w) (i / w) ≡ b
        → cond b (digit (op (get_or xs (i / w) 0) (2 ^ (w - 1 - i % w))) (w - 1 - j % w)) (bit_at w xs j) ≡ g (eqb j i) (bit_at w xs j)
    go true e =
        let q : j / w ≡ i / w = eqb-true (j / w) (i / w) e in
        law (get_or xs (i / w) 0) (2 ^ (w - 1 - i % w)) (w - 1 - j % w) (small (i / w)) (pow-lt (omega arith))
        ∙ ap₂ g (digit_pow (w - 1 - i % w) (w - 1 - j % w) ∙ same_place w i j p q) (ap (λ (k : ℕ). digit (get_or xs k 0) (w - 1 - j % w)) (sym q))
    go false e = sym (ap (λ (b : Bool). g b (bit_at w xs j)) (other_place w i j e) ∙ none (bit_at w xs j))

-- the bits of numbers that are made one by one from those of two lists, by an operation that works digit by digit
pub op_bits : (w n : ℕ) (xs ys zs : List ℕ) (op : ℕ → ℕ → ℕ) (g : Bool → Bool → Bool)
    → ((a b k : ℕ) → a < 2 ^ w → b < 2 ^ w → digit (op a b) k ≡ g (digit a k) (digit b k)) → g false false ≡ false
    → Sized w n xs → Sized w n ys → length zs ≡ n → ((q : ℕ) → q < n → get_or zs q 0 ≡ op (get_or xs q 0) (get_or ys q 0))
    → (i : ℕ) → bit_at w zs i ≡ g (bit_at w xs i) (bit_at w ys i)
unfolding bit_at
op_bits w n xs ys zs op g law none hx hy hz each i = go (ltb (i / w) n) refl
  where
    go : (b : Bool) → ltb (i / w) n ≡ b
        → digit (get_or zs (i / w) 0) (w - 1 - i % w) ≡ g (digit (get_or xs (i / w) 0) (w - 1 - i % w)) (digit (get_or ys (i / w) 0) (w - 1 - i % w))
    go true e =
        ap (λ (x : ℕ). digit x (w - 1 - i % w)) (each (i / w) (ltb-true (i / w) n e))
        ∙ law (get_or xs (i / w) 0) (get_or ys (i / w) 0) (w - 1 - i % w) (hx.small (i / w)) (hy.small (i / w))
    go false e =
        let h : n ≤ i / w = ltb-false (i / w) n e in
        none_at zs (w - 1 - i % w) hz h ∙ sym none ∙ ap₂ g (sym (none_at xs (w - 1 - i % w) hx.long h)) (sym (none_at ys (w - 1 - i % w) hy.long h))

-- the bits of n numbers, each known at the digits of its own
pub each_bits : (w n : ℕ) (xs : List ℕ) (m : Bits) → 0 < w → length xs ≡ n
    → ((q j : ℕ) → q < n → j < w → digit (get_or xs q 0) (w - 1 - j) ≡ m (q * w + j)) → ((i : ℕ) → n * w ≤ i → m i ≡ false)
    → (i : ℕ) → bit_at w xs i ≡ m i
unfolding bit_at
each_bits w n xs m p e inside outside i = go (ltb i (n * w)) refl
  where
    go : (b : Bool) → ltb i (n * w) ≡ b → bit_at w xs i ≡ m i
    go true q =
        ap (bit_at w xs) (sym (div-add-mod' i w)) ∙ bit_of w (i / w) (i % w) xs (mod-lt i p)
        ∙ inside (i / w) (i % w) ((div-lt_iff_lt-mul p).1 (ltb-true i (n * w) q)) (mod-lt i p) ∙ ap m (div-add-mod' i w)
    go false q = none_at xs (w - 1 - i % w) e ((le-div_iff_mul-le p).1 (ltb-false i (n * w) q)) ∙ sym (outside i (ltb-false i (n * w) q))

-- ---- some bit

pub some_intro : (n : ℕ) (m : Bits) (i : ℕ) → i < n → m i ≡ true → some_below n m ≡ true
unfolding some_below
some_intro zero m i h e = absurd (not-suc-le-zero h)
some_intro (suc n) m i h e = go (eq-or-lt_of_le (le_of_suc-le-suc h)) (λ l. some_intro n m i l e)
  where
    go : (i ≡ n) ⊎ (i < n) → (i < n → some_below n m ≡ true) → (some_below n m || m n) ≡ true
    go (inl q) rest = ap (λ (b : Bool). some_below n m || b) (ap m (sym q) ∙ e) ∙ or-true (some_below n m)
    go (inr l) rest = ap (λ (b : Bool). b || m n) (rest l)

pub some_elim : (n : ℕ) (m : Bits) → some_below n m ≡ true → (i : ℕ) × (i < n) × (m i ≡ true)
unfolding some_below
some_elim zero m e = absurd (true≢false (sym e))
some_elim (suc n) m e = go (some_below n m) refl (some_elim n m)
  where
    go : (b : Bool) → some_below n m ≡ b → (some_below n m ≡ true → (i : ℕ) × (i < n) × (m i ≡ true)) → (i : ℕ) × (i < suc n) × (m i ≡ true)
    go true q rest = let (i, l, h) = rest q in (i, omega arith, h)
    go false q rest = (n, le_refl (suc n), sym (ap (λ (b : Bool). b || m n) q) ∙ e)

never_true : (b : Bool) → (b ≡ true → ⊥) → b ≡ false
never_true true h = absurd (h refl)
never_true false h = refl

pub some_none : (n : ℕ) (m : Bits) → some_below n m ≡ false → (i : ℕ) → i < n → m i ≡ false
some_none n m e i h = never_true (m i) (λ q. true≢false (sym (some_intro n m i h q) ∙ e))

pub none_some : (n : ℕ) (m : Bits) → ((i : ℕ) → i < n → m i ≡ false) → some_below n m ≡ false
none_some n m none = never_true (some_below n m) (λ q. let (i, l, h) = some_elim n m q in true≢false (sym h ∙ none i l))

pub some_cong : (n : ℕ) (m m' : Bits) → ((i : ℕ) → i < n → m i ≡ m' i) → some_below n m ≡ some_below n m'
unfolding some_below
some_cong zero m m' e = refl
some_cong (suc n) m m' e = ap₂ ◌||◌ (some_cong n m m' (λ i l. e i (omega arith))) (e n (le_refl (suc n)))

pub some_add : (a b : ℕ) (m : Bits) → some_below (a + b) m ≡ (some_below a m || some_below b (λ i. m (a + i)))
unfolding some_below
some_add a zero m = ap (λ (n : ℕ). some_below n m) (add-zero a) ∙ sym (or-false (some_below a m))
some_add a (suc b) m =
    ap (λ (n : ℕ). some_below n m) (add-suc a b) ∙ ap (λ (t : Bool). t || m (a + b)) (some_add a b m)
    ∙ or_assoc (some_below a m) (some_below b (λ i. m (a + i))) (m (a + b))

-- ---- how many bits

pub count_cong : (n : ℕ) (m m' : Bits) → ((i : ℕ) → i < n → m i ≡ m' i) → count_below n m ≡ count_below n m'
unfolding count_below
count_cong zero m m' e = refl
count_cong (suc n) m m' e =
    ap₂ (λ (x : ℕ) (b : Bool). x + cond b 1 0) (count_cong n m m' (λ i l. e i (omega arith))) (e n (le_refl (suc n)))

pub count_add : (a b : ℕ) (m : Bits) → count_below (a + b) m ≡ count_below a m + count_below b (λ i. m (a + i))
unfolding count_below
count_add a zero m = ap (λ (n : ℕ). count_below n m) (add-zero a) ∙ sym (add-zero (count_below a m))
count_add a (suc b) m =
    ap (λ (n : ℕ). count_below n m) (add-suc a b) ∙ ap (λ (x : ℕ). x + cond (m (a + b)) 1 0) (count_add a b m)
    ∙ add_assoc (count_below a m) (count_below b (λ i. m (a + i))) (cond (m (a + b)) 1 0)

pub count_le : (n : ℕ) (m : Bits) → count_below n m ≤ n
unfolding count_below
count_le zero m = zero-le
count_le (suc n) m = go (m n) (count_le n m)
  where
    go : (b : Bool) → count_below n m ≤ n → count_below n m + cond b 1 0 ≤ suc n
    go true h = omega arith
    go false h = omega arith

-- ---- the bits of one number, and of one number more

abbrev of_number : ℕ → ℕ → Bits
of_number w x i = digit x (w - 1 - i)

-- some bit of a number of w bits is set where it is not 0
some_number : (w x : ℕ) → x < 2 ^ w → some_below w (of_number w x) ≡ not (eqb x 0)
some_number w x h = go (eqb x 0) refl
  where
    go : (b : Bool) → eqb x 0 ≡ b → some_below w (of_number w x) ≡ not b
    go true e = none_some w (of_number w x) (λ i l. ap (λ (y : ℕ). digit y (w - 1 - i)) (eqb-true x 0 e) ∙ digit_zero (w - 1 - i))
    go false e =
        let (k, l, d) = some_digit w x h (eqb-false x 0 e) in
        let back : w - 1 - (w - 1 - k) ≡ k = omega arith in
        some_intro w (of_number w x) (w - 1 - k) (omega arith) (ap (digit x) back ∙ d)

-- the bits set of a number of w bits are its ones
count_number : (w x : ℕ) → x < 2 ^ w → count_below w (of_number w x) ≡ ones x
unfolding count_below ones ones_in
count_number zero x h = sym (ap ones (lt-one h))
count_number (suc w) x h =
    ap₂ (λ (a : ℕ) (k : ℕ). a + cond (digit x k) 1 0)
    (count_cong w (of_number (suc w) x) (of_number w (x / 2)) (λ i l. ap (digit x) (further i l) ∙ sym (digit_half x (w - 1 - i)))
    ∙ count_number w (x / 2) (half_small x w h))
    last
    ∙ ap (λ (k : ℕ). ones (x / 2) + k) (digit_mod x) ∙ add_comm (ones (x / 2)) (x % 2) ∙ sym (ones_step x)
  where
    further : (i : ℕ) → i < w → suc w - 1 - i ≡ suc (w - 1 - i)
    further i l = omega arith

    last : suc w - 1 - w ≡ 0
    last = omega arith

-- a number is not 0 where one of two is not
or_some : (a b : ℕ) → not (eqb (bit_or a b) 0) ≡ (not (eqb a 0) || not (eqb b 0))
or_some a b = go (eqb a 0) (eqb b 0) refl refl
  where
    go : (s t : Bool) → eqb a 0 ≡ s → eqb b 0 ≡ t → not (eqb (bit_or a b) 0) ≡ (not s || not t)
    go true true p q = ap not (eq-eqb (bit_or a b) 0 (omega (arith, or_add_and a b, eqb-true a 0 p, eqb-true b 0 q)))
    go true false p q = ap not (ne_eqb (bit_or a b) 0 (λ z. eqb-false b 0 q (omega (arith, or_add_and a b, and_le_l a b, and_le_r a b))))
    go false t p q = ap not (ne_eqb (bit_or a b) 0 (λ z. eqb-false a 0 p (omega (arith, or_add_and a b, and_le_l a b, and_le_r a b))))

module _ {w n : ℕ} {xs : List ℕ} (h : Sized w n xs) (q a : ℕ) where
  -- a is not 0 where some bit of the first q numbers is set; so with one number more
  pub some_next : not (eqb a 0) ≡ some_below (q * w) (bit_at w xs) → not (eqb (bit_or a (get_or xs q 0)) 0) ≡ some_below (q * w + w) (bit_at w xs)
  some_next e =
      or_some a (get_or xs q 0)
      ∙ ap₂ ◌||◌ e
      (sym (some_cong w (λ i. bit_at w xs (q * w + i)) (of_number w (get_or xs q 0)) (λ i l. bit_of w q i xs l) ∙ some_number w (get_or xs q 0) (h.small q)))
      ∙ sym (some_add (q * w) w (bit_at w xs))

  -- a bits of the first q numbers are set; so with one number more
  pub count_next : a ≡ count_below (q * w) (bit_at w xs) → a + ones (get_or xs q 0) ≡ count_below (q * w + w) (bit_at w xs)
  count_next e =
      ap₂ ◌+◌ e
      (sym (count_cong w (λ i. bit_at w xs (q * w + i)) (of_number w (get_or xs q 0)) (λ i l. bit_of w q i xs l) ∙ count_number w (get_or xs q 0) (h.small q)))
      ∙ sym (count_add (q * w) w (bit_at w xs))

-- ---- numbers packed from bits

bit_below : (b : Bool) → cond b 1 0 < 2
bit_below true = le_refl 2
bit_below false = suc-le-suc zero-le

pub number_small : (w : ℕ) (m : Bits) (k : ℕ) → number w m k < 2 ^ w
unfolding number
number_small zero m k = le_refl 1
number_small (suc w) m k =
    subst (λ (x : ℕ). number (suc w) m k < x) (sym (pow-suc 2 w)) (digits_lt (number_small w m k) (bit_below (m (k + w))))

pub number_digit : (w : ℕ) (m : Bits) (k j : ℕ) → j < w → digit (number w m k) (w - 1 - j) ≡ m (k + j)
unfolding number
number_digit zero m k j h = absurd (not-suc-le-zero h)
number_digit (suc w) m k j h = go (eq-or-lt_of_le (le_of_suc-le-suc h)) (number_digit w m k j)
  where
    go : (j ≡ w) ⊎ (j < w) → (j < w → digit (number w m k) (w - 1 - j) ≡ m (k + j))
        → digit (number w m k * 2 + cond (m (k + w)) 1 0) (suc w - 1 - j) ≡ m (k + j)
    go (inl q) rest =
        let none : suc w - 1 - j ≡ 0 = omega arith in
        ap (digit (number w m k * 2 + cond (m (k + w)) 1 0)) none ∙ digit_last (number w m k) (m (k + w)) ∙ ap (λ (i : ℕ). m (k + i)) (sym q)
    go (inr l) rest =
        let more : suc w - 1 - j ≡ suc (w - 1 - j) = omega arith in
        ap (digit (number w m k * 2 + cond (m (k + w)) 1 0)) more ∙ digit_snoc (number w m k) (m (k + w)) (w - 1 - j) ∙ rest l

numbers_long : (w n : ℕ) (m : Bits) (k : ℕ) → length (numbers w n m k) ≡ n
unfolding numbers
numbers_long w zero m k = refl
numbers_long w (suc n) m k = ap suc (numbers_long w n m (k + w))

pub numbers_at : (w n : ℕ) (m : Bits) (k q : ℕ) → q < n → get_or (numbers w n m k) q 0 ≡ number w m (k + q * w)
unfolding numbers
numbers_at w zero m k q h = absurd (not-suc-le-zero h)
numbers_at w (suc n) m k zero h = ap (number w m) (omega arith)
numbers_at w (suc n) m k (suc q) h = numbers_at w n m (k + w) q (le_of_suc-le-suc h) ∙ ap (number w m) (omega arith)

pub numbers_words : (w n : ℕ) (m : Bits) (k : ℕ) → Sized w n (numbers w n m k)
numbers_words w n m k = record { long = numbers_long w n m k; small = λ q. go q (ltb q n) refl }
  where
    go : (q : ℕ) (b : Bool) → ltb q n ≡ b → get_or (numbers w n m k) q 0 < 2 ^ w
    go q true e = rw (numbers_at w n m k q (ltb-true q n e)) (number_small w m (k + q * w))
    go q false e = rw (get_or-eq_default (numbers w n m k) 0 {n = q} (omega (arith, numbers_long w n m k, ltb-false q n e))) (pow_pos w)

pub numbers_bits : (w n : ℕ) (m : Bits) (k i : ℕ) → 0 < w → i < n * w → bit_at w (numbers w n m k) i ≡ m (k + i)
unfolding bit_at
numbers_bits w n m k i p h =
    ap (λ (x : ℕ). digit x (w - 1 - i % w)) (numbers_at w n m k (i / w) ((div-lt_iff_lt-mul p).1 h))
    ∙ number_digit w m (k + i / w * w) (i % w) (mod-lt i p)
    ∙ ap m (add_assoc k (i / w * w) (i % w) ∙ ap (λ (x : ℕ). k + x) (div-add-mod' i w))

pub numbers_of_bits : {w n : ℕ} {xs : List ℕ} → 0 < w → Sized w n xs → numbers w n (bit_at w xs) 0 ≡ xs
numbers_of_bits {w} {n} {xs} p h =
    same_bits p (numbers_words w n (bit_at w xs) 0) h (λ i l. numbers_bits w n (bit_at w xs) 0 i p l ∙ ap (bit_at w xs) (zero-add i))

-- ---- a mask

-- a mask has four words of 64 bits, by what owning it tells: `c.good` of a parameter, `c.CALL.ok` of a result
pub mask_words_lem : (m : Mask) {vs : List Val} → Is the_row m vs → Sized 64 4 m.words
mask_words_lem m h = record { long = search rules; small = λ k. (elem_Fits w64 w64 m.words h.1.1.0.0 k h.1.1.0.1.1 tt).fits }

-- what holds at 0, 1, 2 and 3 holds below 4
pub below_four : (P : ℕ → Type 0) → P 0 → P 1 → P 2 → P 3 → (q : ℕ) → q < 4 → P q
below_four P a b c d zero h = a
below_four P a b c d (suc zero) h = b
below_four P a b c d (suc (suc zero)) h = c
below_four P a b c d (suc (suc (suc zero))) h = d
below_four P a b c d (suc (suc (suc (suc q)))) h = absurd (omega arith)

-- the bits of a mask that is made word by word from two
pub mask_op : (x y : Mask) (op : ℕ → ℕ → ℕ) (g : Bool → Bool → Bool)
    → ((a b k : ℕ) → a < 2 ^ 64 → b < 2 ^ 64 → digit (op a b) k ≡ g (digit a k) (digit b k)) → g false false ≡ false
    → {vs us : List Val} → Is the_row x vs → Is the_row y us
    → bit_at 64 (map (λ q. op (get_or x.words q 0) (get_or y.words q 0)) (0 ∷ 1 ∷ 2 ∷ 3 ∷ [])) ≡ (λ i. g (bits x i) (bits y i))
mask_op x y op g law none hx hy =
    fun_ext
    (op_bits 64 4 x.words y.words zs op g law none (mask_words_lem x hx) (mask_words_lem y hy) refl
    (below_four (λ q. get_or zs q 0 ≡ op (get_or x.words q 0) (get_or y.words q 0)) refl refl refl refl))
  where
    zs : List ℕ
    zs = map (λ q. op (get_or x.words q 0) (get_or y.words q 0)) (0 ∷ 1 ∷ 2 ∷ 3 ∷ [])

-- a mask with bit i put, by an operation with its bit in its word
module _ (m : Mask) {vs : List Val} (h : Is the_row m vs) (i : ℕ) (l : i < 256) where
  mask_put : (op : ℕ → ℕ → ℕ) (g : Bool → Bool → Bool)
      → ((a b k : ℕ) → a < 2 ^ 64 → b < 2 ^ 64 → digit (op a b) k ≡ g (digit b k) (digit a k)) → ((b : Bool) → g false b ≡ b)
      → bit_at 64 (set m.words (i / 64) (op (get_or m.words (i / 64) 0) (2 ^ (63 - i % 64)))) ≡ (λ j. g (eqb j i) (bits m j))
  mask_put op g law none =
      let r : Sized 64 4 m.words = mask_words_lem m h in
      fun_ext (λ j. bit_put op g 64 law none i j m.words (omega arith) r.small (omega (arith, r.long)))

  pub mask_set : (b : ℕ) → b ≡ 2 ^ (63 - i % 64) → bit_at 64 (set m.words (i / 64) (bit_or (get_or m.words (i / 64) 0) b)) ≡ included i (bits m)
  unfolding included
  mask_set b e = rw e (mask_put bit_or ◌||◌ (λ a b k _ _. digit_or a b k ∙ or_comm (digit a k) (digit b k)) (λ b. refl))

  pub mask_clear : (b : ℕ) → b ≡ 2 ^ (63 - i % 64)
      → bit_at 64 (set m.words (i / 64) (bit_and (get_or m.words (i / 64) 0) (2 ^ 64 - 1 - b))) ≡ excluded i (bits m)
  unfolding excluded
  mask_clear b e =
      rw e
      (mask_put (λ a b. bit_and a (2 ^ 64 - 1 - b)) (λ a b. not a && b)
      (λ a b k ha hb. digit_clear 64 a b k ha hb ∙ and_comm (digit a k) (not (digit b k))) (λ b. refl))

-- the bits of words that are all zeros, and all ones
pub zero_bits : bit_at 64 (replicate 4 0) ≡ no_bits
unfolding no_bits
zero_bits =
    fun_ext
    (each_bits 64 4 (replicate 4 0) no_bits (omega arith) refl
    (λ q j l _. ap (λ (x : ℕ). digit x (63 - j)) (get_or-replicate 4 q 0 0 l) ∙ digit_zero (63 - j)) (λ i l. refl))

pub one_bits : bit_at 64 (replicate 4 (2 ^ 64 - 1)) ≡ all_bits
unfolding all_bits
one_bits =
    fun_ext
    (each_bits 64 4 (replicate 4 (2 ^ 64 - 1)) all_bits (omega arith) refl
    (λ q j l m. ap (λ (x : ℕ). digit x (63 - j)) (get_or-replicate 4 q (2 ^ 64 - 1) 0 l) ∙ digit_ones 64 (63 - j)
    ∙ lt-ltb (63 - j) 64 (omega arith) ∙ sym (lt-ltb (q * 64 + j) 256 (omega arith)))
    (λ i l. le-ltb i 256 (omega arith)))
