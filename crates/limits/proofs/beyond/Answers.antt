-- `beyond` meets its contract.
use Prim.Native.Nat.{ℕ, ◌+◌, ◌-◌, ◌*◌, ◌/◌, ◌%◌, ◌^◌, ◌≤◌, ◌<◌}
use native.Mathlib.Omega.{arith}
use mathlib.Core.Bool.{Bool, true, false, cond, ◌&&◌, and-false, and-true}
use mathlib.Core.Path.{◌≡◌, refl, sym, ap, fun_ext, ◌∙◌}
use mathlib.Core.List.{[], ◌∷◌}
use lib.ListN.{get_or}
use lib.Dec.{eqb, ltb}
use borrow.Author.Tests.{lt-ltb, le-ltb, ltb-true, ltb-false, eqb-true, eqb-false}
use Rattle.mask.specs.Bits.{digit, bits_above}
use Rattle.mask.proofs.Bit.{digit_zero, digit_ones, one_shl}
use Rattle.mask.proofs.Laws.{same_test, each_bits, below_four}
use Rattle.limits.proofs.beyond.Goals as goal

-- word q of the bits above a limit
abbrev word_of : ℕ → ℕ → ℕ
word_of n q = cond (ltb (n / 64) q) (2 ^ 64 - 1) (cond (eqb (n / 64) q) (1 * 2 ^ (63 - n % 64) % 2 ^ 64 - 1) 0)

above : (n q j : ℕ) → q < 4 → j < 64 → digit (word_of n q) (63 - j) ≡ bits_above n (q * 64 + j)
unfolding bits_above
above n q j l m =
    go (ltb (n / 64) q) (eqb (n / 64) q) refl refl ∙ sym (and-true (ltb n (q * 64 + j)))
    ∙ ap (λ (b : Bool). ltb n (q * 64 + j) && b) (sym (lt-ltb (q * 64 + j) 256 (omega arith)))
  where
    go : (s t : Bool) → ltb (n / 64) q ≡ s → eqb (n / 64) q ≡ t
        → digit (cond s (2 ^ 64 - 1) (cond t (1 * 2 ^ (63 - n % 64) % 2 ^ 64 - 1) 0)) (63 - j) ≡ ltb n (q * 64 + j)
    go true t p e = digit_ones 64 (63 - j) ∙ lt-ltb (63 - j) 64 (omega arith) ∙ sym (lt-ltb n (q * 64 + j) (omega (arith, ltb-true (n / 64) q p)))
    go false true p e =
        ap (λ (x : ℕ). digit (x - 1) (63 - j)) (one_shl 64 (63 - n % 64) (omega arith)) ∙ digit_ones (63 - n % 64) (63 - j)
        ∙ same_test
        (λ b. lt-ltb n (q * 64 + j) (omega (arith, ltb-true (63 - j) (63 - n % 64) b, eqb-true (n / 64) q e)))
        (λ b. lt-ltb (63 - j) (63 - n % 64) (omega (arith, ltb-true n (q * 64 + j) b, eqb-true (n / 64) q e)))
    go false false p e =
        let apart : n / 64 ≡ q → ⊥ = eqb-false (n / 64) q e in
        digit_zero (63 - j) ∙ sym (le-ltb n (q * 64 + j) (omega (arith, ltb-false (n / 64) q p)))

past : (n i : ℕ) → 256 ≤ i → bits_above n i ≡ false
unfolding bits_above
past n i l = ap (λ (b : Bool). ltb n i && b) (le-ltb i 256 l) ∙ and-false (ltb n i)

pub returns : goal.returns
unfolding bits_above
returns c =
    let n = c.args.limit in
    let c₂ = c in
    let ws = c₂.beyond_word.result ∷ c₂.beyond_word-2.result ∷ c.beyond_word-3.result ∷ c.beyond_word-4.result ∷ [] in
    let words =
    below_four (λ q. get_or ws q 0 ≡ word_of n q) c₂.beyond_word.ensures c₂.beyond_word-2.ensures
    c.beyond_word-3.ensures c.beyond_word-4.ensures in
    fun_ext
    (each_bits 64 4 ws (bits_above n) (omega arith) refl
    (λ q j l m. ap (λ (x : ℕ). digit x (63 - j)) (words q l) ∙ above n q j l m) (past n))
