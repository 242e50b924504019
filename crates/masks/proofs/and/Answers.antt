-- `and` meets its contract.
use Rattle.std.proofs.Common.{◌&&◌, refl, bit_and}
use Rattle.mask.specs.Bits.{both}
use Rattle.mask.proofs.Bit.{digit_and}
use Rattle.mask.proofs.Laws.{mask_op}
use Rattle.masks.proofs.and.Goals as goal

pub returns : goal.returns
unfolding both
returns c = mask_op c.args.one c.args.other bit_and ◌&&◌ (λ a b k _ _. digit_and a b k) refl c.well_formed.0 c.well_formed.1.0
