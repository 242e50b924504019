-- `Mask::full` meets its contract.
-- Assumes nothing.
use Rattle.mask.proofs.Laws.{one_bits}
use Rattle.mask.proofs.Mask.full.Goals as goal

pub returns : goal.returns
returns c = one_bits
