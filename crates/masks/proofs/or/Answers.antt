-- `or` meets its contract.
use Rattle.std.proofs.Common.{◌||◌, refl, bit_or}
use Rattle.mask.specs.Bits.{either}
use Rattle.mask.proofs.Bit.{digit_or}
use Rattle.mask.proofs.Laws.{mask_op}
use Rattle.masks.proofs.or.Goals as goal

pub returns : goal.returns
unfolding either
returns c = mask_op c.args.one c.args.other bit_or ◌||◌ (λ a b k _ _. digit_or a b k) refl c.well_formed.0 c.well_formed.1.0
