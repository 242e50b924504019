-- `aqmask` meets its contract.
use Rattle.std.proofs.Common.{ap}
use Rattle.mask.specs.Bits.{bit_at}
use Rattle.layout.specs.Layout.{host_in, mask_at}
use Rattle.record.proofs.aqmask.Goals as goal

pub returns : goal.returns
unfolding host_in mask_at
returns c = ap (bit_at 64) c.mask_at.ensures
