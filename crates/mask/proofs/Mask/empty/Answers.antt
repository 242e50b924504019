-- `Mask::empty` meets its contract.
-- Assumes nothing.
use Rattle.mask.proofs.Laws.{zero_bits}
use Rattle.mask.proofs.Mask.empty.Goals as goal

pub returns : goal.returns
returns c = zero_bits
