-- `Mask::with` meets its contract.
use Rattle.std.proofs.Common.{ℕ, ap, ◌∙◌, arith}
use Rattle.mask.specs.Bits.{bits, included}
use Rattle.mask.proofs.Laws.{mask_set}
use Rattle.mask.proofs.Mask.with.Goals as goal

pub returns : goal.returns
returns g c =
    rw c.from.ensures (mask_set c.args.self c.well_formed.0 c.bit-i.result (omega arith) c.bit_of.result c.bit_of.ensures)
    ∙ ap (λ (i : ℕ). included i (bits c.args.self)) c.bit-i.ensures
