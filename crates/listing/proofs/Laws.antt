-- How many lines a matrix has, and what a call of the listing answers.
-- Assumes nothing.
use Prim.Native.Nat.{ℕ, zero, suc, ◌+◌, ◌*◌, ◌≤◌, ◌<◌}
use native.Mathlib.Nat.{zero-mul, suc-mul, one-mul, add-mul}
use native.Mathlib.Omega.{arith}
use mathlib.Core.Path.{◌≡◌, refl, sym, ap, ap₂, ◌∙◌}
use mathlib.Core.Bool.{Bool, true, false, cond, ◌&&◌}
use mathlib.Core.List.{List}
use lib.ListN.{length}
use lib.Dec.{ltb}
use Rattle.std.proofs.Common.{Some, None}
use borrow.Author.Tests.{lt-ltb, le-ltb}
use Rattle.errno.specs.Errno.{number_of}
use Rattle.errno.specs.declared.Errno.TheVariants.{Enoent, Enospc}
use Rattle.mask.specs.Bits.{Bits, bits, count_below}
use Rattle.mask.proofs.Laws.{count_cong, count_add}
use Rattle.rules.specs.declared.Id.{Id}
use Rattle.rules.specs.declared.Masks.{Masks}
use Rattle.rules.specs.declared.Matrix.{Matrix}
use Rattle.rules.specs.State.{slots, in_product}
use Rattle.rules.specs.Commands.{found, slot_of}
use Rattle.rules.proofs.First.{found_some, found_nothing}
use Rattle.rules.proofs.Products.{in_product_lem}
use Rattle.layout.specs.Layout.{state_in, device_in}
use Rattle.matrix.specs.HasMasks.{HasMasks}
use Rattle.lines.specs.Lines.{line_size, queues_at}
use Rattle.lines.proofs.Laws.{count_queues}
use Rattle.listing.specs.Listed.{matrix, list_errno}

-- ---- how many queues

no_count : (n : ℕ) → count_below n (λ i. false) ≡ 0
unfolding count_below
no_count zero = refl
no_count (suc n) = omega (arith, no_count n)

-- n rows of w numbers each, where row x has c of them if a has x, and none else
rows : (w c : ℕ) (a m : Bits) → ((x : ℕ) → count_below w (λ i. m (x * w + i)) ≡ cond (a x) 1 0 * c) → (n : ℕ) → count_below (n * w) m ≡ count_below n a * c
unfolding count_below
rows w c a m e zero = ap (λ (x : ℕ). count_below x m) (zero-mul w) ∙ sym (zero-mul c)
rows w c a m e (suc n) =
    ap (λ (x : ℕ). count_below x m) (suc-mul n w) ∙ count_add (n * w) w m ∙ ap₂ ◌+◌ (rows w c a m e n) (e n)
    ∙ sym (add-mul (count_below n a) (cond (a n) 1 0) c)

product_row : (a d : Bits) (x : ℕ) → count_below 256 (λ i. in_product a d (x * 256 + i)) ≡ cond (a x) 1 0 * count_below 256 d
product_row a d x = count_cong 256 (λ i. in_product a d (x * 256 + i)) (λ i. a x && d i) (λ i h. in_product_lem a d x i h) ∙ go (a x)
  where
    go : (b : Bool) → count_below 256 (λ i. b && d i) ≡ cond b 1 0 * count_below 256 d
    go true = sym (one-mul (count_below 256 d))
    go false = no_count 256 ∙ sym (zero-mul (count_below 256 d))

-- a whole matrix has a line for each adapter and each domain
pub matrix_lines : (a d : Bits) → length (queues_at 0 (in_product a d)) ≡ count_below 256 a * count_below 256 d
matrix_lines a d = count_queues (in_product a d) ∙ rows 256 (count_below 256 d) a (in_product a d) (product_row a d) 256

-- ---- a whole call

module _ (ws qs : List ℕ) (i : Id) where
  pub errno_absent : (n : ℕ) → None ≡ found (slot_of i (device_in ws)) → number_of Enoent ≡ list_errno (state_in ws qs) i n
  unfolding list_errno state_in
  errno_absent n h = rw (le-ltb (slot_of i (device_in ws)) slots (found_nothing h))

  module _ {p : ℕ} (at : Some p ≡ found (slot_of i (device_in ws))) where
    there : ltb (slot_of i (device_in ws)) slots ≡ true
    there = let here = found_some at in lt-ltb (slot_of i (device_in ws)) slots (rw here.1 at here.0)

    pub errno_short : (n : ℕ) → n < line_size → number_of Enospc ≡ list_errno (state_in ws qs) i n
    unfolding list_errno state_in
    errno_short n l = rw (there, lt-ltb n line_size l)

    pub errno_none : (n : ℕ) → line_size ≤ n → 0 ≡ list_errno (state_in ws qs) i n
    unfolding list_errno state_in
    errno_none n l = rw (there, le-ltb n line_size l)

    pub matrix_at : {w : Matrix} {m : Masks} → HasMasks w (state_in ws qs) (device_in ws p) m
        → in_product (bits m.adapters) (bits m.domains) ≡ matrix (state_in ws qs) i w
    unfolding matrix state_in
    matrix_at h = rw (← (found_some at).1) (ap₂ in_product h.adapters h.domains)
