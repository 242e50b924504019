-- `any` meets its contract.
use native.Mathlib.Nat.{not-suc-le-zero}
use Rattle.std.proofs.Common.{sym, get_or, bit_or}
use Rattle.mask.specs.Bits.{Sized, bits}
use Rattle.mask.proofs.Laws.{mask_words_lem, some_next, none_some}
use Rattle.masks.proofs.any.Goals as goal

pub returns : goal.returns
returns c =
    let x = c.args.mask.words in
    let h : Sized 64 4 x = mask_words_lem c.args.mask c.well_formed.0 in
    let h₀ = some_next h 0 0 (sym (none_some 0 (bits c.args.mask) (λ i l. absurd (not-suc-le-zero l)))) in
    let x₁ = bit_or (get_or x 0 0) (get_or x 1 0) in
    some_next h 3 (bit_or x₁ (get_or x 2 0)) (some_next h 2 x₁ (some_next h 1 (get_or x 0 0) h₀))
