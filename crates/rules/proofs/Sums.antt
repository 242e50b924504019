-- Sums over the numbers below n.
-- Assumes nothing.
use Prim.Native.Nat.{ℕ, zero, suc, ◌+◌, ◌*◌, ◌≤◌, ◌<◌}
use native.Mathlib.Nat.{add-zero, zero-add, eq-or-lt_of_le, le_of_suc-le-suc, le_refl, mul-suc}
use native.Mathlib.Omega.{arith}
use mathlib.Core.Path.{◌≡◌, refl, sym, ap, ap₂, subst, ◌∙◌}
use mathlib.Core.Logic.{⊎_elim}
use Rattle.rules.specs.Queues.{sum_below, sum_from}

-- equal terms, equal sums
pub sum_cong : (n : ℕ) (f g : ℕ → ℕ) → ((j : ℕ) → j < n → f j ≡ g j) → sum_below n f ≡ sum_below n g
unfolding sum_below
sum_cong zero f g e = refl
sum_cong (suc n) f g e = ap₂ (λ (a b : ℕ). a + b) (sum_cong n f g (λ j h. e j (omega arith))) (e n (omega arith))

-- terms of at most c
pub sum_le : (n c : ℕ) (f : ℕ → ℕ) → ((j : ℕ) → f j ≤ c) → sum_below n f ≤ c * n
unfolding sum_below
sum_le zero c f h = omega arith
sum_le (suc n) c f h = omega (arith, sum_le n c f h, h n, mul-suc c n)

-- one term of the sum is another, and the others are the same
pub sum_change : (n q : ℕ) (f g : ℕ → ℕ) → q < n → ((j : ℕ) → j < n → (j ≡ q → ⊥) → f j ≡ g j) → sum_below n f + g q ≡ sum_below n g + f q
unfolding sum_below
sum_change zero q f g h e = absurd (omega arith)
sum_change (suc n) q f g h e =
    ⊎_elim (λ l. last l) (λ l. earlier l (sum_change n q f g l (λ j k ne. e j (omega arith) ne))) (eq-or-lt_of_le (le_of_suc-le-suc h))
  where
    last : q ≡ n → sum_below n f + f n + g q ≡ sum_below n g + g n + f q
    last l =
        let s : sum_below n f ≡ sum_below n g = sum_cong n f g (λ j k. e j (omega arith) (λ m. omega arith)) in
        subst (λ (m : ℕ). sum_below n f + f n + g m ≡ sum_below n g + g n + f m) (sym l) (omega arith)

    earlier : q < n → sum_below n f + g q ≡ sum_below n g + f q → sum_below n f + f n + g q ≡ sum_below n g + g n + f q
    earlier l i = let t : f n ≡ g n = e n (omega arith) (λ m. omega arith) in omega arith

-- a sum of nothing but zeros, and only that, is zero
pub sum_zero : (n : ℕ) (f : ℕ → ℕ) → sum_below n f ≡ 0 → (j : ℕ) → j < n → f j ≡ 0
unfolding sum_below
sum_zero zero f e j h = absurd (omega arith)
sum_zero (suc n) f e j h =
    ⊎_elim (λ l. subst (λ (m : ℕ). f m ≡ 0) (sym l) (omega arith)) (λ l. sum_zero n f (omega arith) j l) (eq-or-lt_of_le (le_of_suc-le-suc h))

pub zero_sum : (n : ℕ) (f : ℕ → ℕ) → ((j : ℕ) → j < n → f j ≡ 0) → sum_below n f ≡ 0
unfolding sum_below
zero_sum zero f e = refl
zero_sum (suc n) f e = omega (arith, zero_sum n f (λ j h. e j (omega arith)), e n (omega arith))

-- the terms from k on: none, the first, equal ones, some of at most c
pub sum_from_none : (k : ℕ) (f : ℕ → ℕ) → sum_from 0 k f ≡ 0
unfolding sum_from
sum_from_none k f = refl

pub sum_from_first : (n k : ℕ) (f : ℕ → ℕ) → sum_from (suc n) k f ≡ f k + sum_from n (suc k) f
unfolding sum_from
sum_from_first n k f = refl

pub sum_from_cong : (n k : ℕ) (f g : ℕ → ℕ) → ((j : ℕ) → k ≤ j → f j ≡ g j) → sum_from n k f ≡ sum_from n k g
unfolding sum_from
sum_from_cong zero k f g e = refl
sum_from_cong (suc n) k f g e = ap₂ (λ (a b : ℕ). a + b) (e k (le_refl k)) (sum_from_cong n (suc k) f g (λ j h. e j (omega arith)))

pub sum_from_le : (n k c : ℕ) (f : ℕ → ℕ) → ((j : ℕ) → f j ≤ c) → sum_from n k f ≤ c * n
unfolding sum_from
sum_from_le zero k c f h = omega arith
sum_from_le (suc n) k c f h = omega (arith, sum_from_le n (suc k) c f h, h k, mul-suc c n)

-- some terms and those after them; one more
pub sum_from_parts : (m n k : ℕ) (f : ℕ → ℕ) → sum_from m k f + sum_from n (k + m) f ≡ sum_from (m + n) k f
unfolding sum_from
sum_from_parts zero n k f = simp (zero-add, add-zero)
sum_from_parts (suc m) n k f =
    let e : suc (m + n) ≡ suc m + n = omega arith in
    let c : sum_from n (k + suc m) f ≡ sum_from n (suc k + m) f = ap (λ (i : ℕ). sum_from n i f) (omega arith) in
    subst (λ (i : ℕ). sum_from (suc m) k f + sum_from n (k + suc m) f ≡ sum_from i k f) e (omega (arith, c, sum_from_parts m n (suc k) f))

pub sum_from_one : (k : ℕ) (f : ℕ → ℕ) → sum_from 1 k f ≡ f k
unfolding sum_from
sum_from_one k f = add-zero (f k)

-- together with the terms below k
pub sum_split : (n k : ℕ) (f : ℕ → ℕ) → sum_below k f + sum_from n k f ≡ sum_below (k + n) f
unfolding sum_from sum_below
sum_split zero k f = rw (add-zero k) (add-zero (sum_below k f))
sum_split (suc n) k f =
    let i : sum_below (suc k) f + sum_from n (suc k) f ≡ sum_below (suc k + n) f = sum_split n (suc k) f in
    let e : suc k + n ≡ k + suc n = omega arith in
    subst (λ (m : ℕ). sum_below k f + (f k + sum_from n (suc k) f) ≡ sum_below m f) e (omega arith)

pub sum_all : (n : ℕ) (f : ℕ → ℕ) → sum_from n 0 f ≡ sum_below n f
unfolding sum_below
sum_all n f = sym (zero-add (sum_from n 0 f)) ∙ sum_split n 0 f ∙ ap (λ (m : ℕ). sum_below m f) (zero-add n)
