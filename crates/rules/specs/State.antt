-- What the service keeps (RULES.md, "Record"), as sets of numbers and functions of numbers.
-- A queue is named by APID x 256 + APQI, so ascending queues are by ascending APID, then APQI.
-- Assumes nothing.
use Rattle.std.specs.Prelude.{ℕ, ◌+◌, ◌*◌, ◌/◌, ◌%◌, Bool, false, ◌&&◌}
use Rattle.mask.specs.Bits.{Bits, no_bits, all_bits}
use Rattle.mask.specs.declared.Apid.{Apid}
use Rattle.mask.specs.declared.Apqi.{Apqi}
use Rattle.rules.specs.declared.Driver.{Driver}
use Rattle.rules.specs.declared.Driver.TheVariants.{Unbound}
use Rattle.rules.specs.declared.Id.{Id}

-- the number of slots for mediated devices
abbrev pub slots : ℕ
slots = 8

-- the number of queues
abbrev pub queues : ℕ
queues = 65536

-- highest adapter and highest domain number
pub record Limits : Type 0 where
  pub adapter : ℕ
  pub domain : ℕ

-- the host's masks
pub record HostMasks : Type 0 where
  pub apmask : Bits
  pub aqmask : Bits

-- the partition's configuration
pub record Config : Type 0 where
  pub adapters : Bits
  pub domains : Bits
  pub controls : Bits
  pub types : ℕ → ℕ

-- a slot for a mediated device
pub record Device : Type 0 where
  pub present : Bool
  pub is_open : Bool
  pub id : Id
  pub adapters : Bits
  pub domains : Bits
  pub controls : Bits

-- a device for each slot
abbrev pub Devices : Type 0
Devices = ℕ → Device

-- the whole state
pub record State : Type 0 where
  pub limits : Limits
  pub host : HostMasks
  pub config : Config
  pub device : Devices
  pub driver : ℕ → Driver

-- the queue's APID
abbrev pub apid : ℕ → ℕ
apid q = q / 256

-- the queue's APQI
abbrev pub apqi : ℕ → ℕ
apqi q = q % 256

-- the queue of an adapter and a domain
abbrev pub apqn : Apid → Apqi → ℕ
apqn a d = a.0 * 256 + d.0

-- whether a queue is in the product of some adapters and some domains
unfoldable pub in_product : Bits → Bits → Bits
in_product adapters domains q = adapters (apid q) && domains (apqi q)

-- an empty slot
unfoldable pub no_device : Device
no_device =
    record {
      present = false;
      is_open = false;
      id = record { hi = 0; lo = 0 };
      adapters = no_bits;
      domains = no_bits;
      controls = no_bits;
    }

-- a fresh record
unfoldable pub fresh : Limits → State
fresh l =
    record {
      limits = l;
      host = record { apmask = all_bits; aqmask = all_bits };
      config = record { adapters = no_bits; domains = no_bits; controls = no_bits; types = λ a. 0 };
      device = λ p. no_device;
      driver = λ q. Unbound;
    }
