-- `Mask::has` meets its contract.
use mathlib.Core.Path.{ap}
use Rattle.mask.specs.Bits.{bits, digit, bit_at}
use Rattle.mask.proofs.Mask.has.Goals as goal

pub returns : goal.returns
unfolding digit bit_at
returns g c = rw c.from.ensures (ap (bits c.args.self) c.bit-i.ensures)
