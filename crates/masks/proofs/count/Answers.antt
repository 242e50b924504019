-- `count` meets its contract.
use native.Mathlib.Nat.{zero-add}
use native.Mathlib.Omega.{arith}
use mathlib.Core.Path.{sym, ◌∙◌}
use lib.ListN.{get_or}
use lib.Count.{ones}
use Rattle.mask.specs.Bits.{Sized, bits}
use Rattle.mask.proofs.Laws.{mask_words_lem, count_next, count_le}
use Rattle.masks.proofs.count.Goals as goal

pub returns : goal.returns
returns c =
    let x = c.args.mask.words in
    let h : Sized 64 4 x = mask_words_lem c.args.mask c.well_formed.0 in
    let h₀ = sym (zero-add (ones (get_or x 0 0))) ∙ count_next h 0 0 (omega (arith, count_le 0 (bits c.args.mask))) in
    count_next h 3 _ (count_next h 2 _ (count_next h 1 _ h₀))
