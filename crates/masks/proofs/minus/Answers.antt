-- `minus` meets its contract.
use Rattle.std.proofs.Common.{◌-◌, ◌^◌, not, ◌&&◌, refl, bit_and}
use Rattle.mask.proofs.Bit.{digit_clear}
use Rattle.mask.proofs.Laws.{mask_op}
use Rattle.masks.proofs.minus.Goals as goal

pub returns : goal.returns
returns c =
    mask_op c.args.one c.args.other (λ x y. bit_and x (2 ^ 64 - 1 - y)) (λ x y. x && not y) (digit_clear 64) refl
    c.well_formed.0 c.well_formed.1.0
