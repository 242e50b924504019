-- The products that a record holds: their adapters and domains, and their queues.
-- The rules: RULES.md, "Reserved", "Target" and "Commands".
-- Assumes nothing.
use Rattle.std.specs.Prelude.{◌&&◌}
use Rattle.mask.specs.Bits.{Bits}
use Rattle.rules.specs.State.{HostMasks, Config, Device}
use Rattle.rules.specs.Queues.{reserved, configured}
use Rattle.rules.specs.Commands.{product}
use Rattle.product.specs.declared.Product.{Product}
use Rattle.product.specs.Meet.{ProductOf}

-- the queues that are reserved for the host
abbrev pub ReservedProduct : HostMasks → Product → Type 0
ReservedProduct h = ProductOf h.apmask h.aqmask (reserved h)

-- the queues that are configured
abbrev pub ConfiguredProduct : Config → Product → Type 0
ConfiguredProduct c = ProductOf c.adapters c.domains (configured c)

-- numbers of a device: none where there is no device
abbrev pub if_present : Device → Bits → Bits
if_present v m i = v.present && m i

-- the queues of a device
abbrev pub AssignedProduct : Device → Product → Type 0
AssignedProduct v = ProductOf (if_present v v.adapters) (if_present v v.domains) (product v)
