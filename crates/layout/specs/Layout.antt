-- The record as it lies in memory: words for all but the drivers, and a byte for each queue's driver.
-- Any contents are read: a limit above 255 as 255, a flag by not being 0, a driver byte beyond the three as unbound.
-- The rules: RULES.md, "Record".
-- Assumes nothing.
use Rattle.std.specs.Prelude.{ℕ, zero, suc, ◌+◌, ◌-◌, ◌*◌, ◌^◌, min, Bool, false, cond, not, ◌&&◌, List, [], ◌∷◌, ◌++◌, get_or, set, replicate, eqb, ltb}
use Rattle.mask.specs.Bits.{Bits, bits, bit_at, numbers}
use Rattle.rules.specs.declared.Driver.{Driver}
use Rattle.rules.specs.declared.Driver.TheVariants.{Unbound, Host, Passthrough}
use Rattle.rules.specs.declared.Kind.{Kind}
use Rattle.rules.specs.declared.Kind.TheVariants.{Adapter, Domain, Control}
use Rattle.rules.specs.declared.Id.{Id}
use Rattle.rules.specs.declared.Configuration.{Configuration}
use Rattle.rules.specs.Queues.{configured}
use Rattle.rules.specs.Commands.{stored}
use Rattle.rules.specs.State.{Limits, HostMasks, Config, Device, State, slots, no_device}

-- where the parts lie: word 0 and 1 are the limits, and each mask has four words
abbrev pub apmask_at : ℕ
apmask_at = 2

abbrev pub aqmask_at : ℕ
aqmask_at = 6

abbrev pub config_at : ℕ
config_at = 10

abbrev pub types_at : ℕ
types_at = 22

-- the words of a slot: present, open, the id's two words, then three masks
abbrev pub slot_words : ℕ
slot_words = 16

-- the first word of slot p
abbrev pub device_at : ℕ → ℕ
device_at p = types_at + 256 + p * slot_words

-- the number of words
abbrev pub word_count : ℕ
word_count = device_at slots

-- where the mask of a kind lies in a device
abbrev pub kind_at : Kind → ℕ
kind_at Adapter = 4
kind_at Domain = 8
kind_at Control = 12

-- four words from word k on
abbrev pub four : List ℕ → ℕ → List ℕ
four ws k = get_or ws k 0 ∷ get_or ws (k + 1) 0 ∷ get_or ws (k + 2) 0 ∷ get_or ws (k + 3) 0 ∷ []

-- the mask that lies at word k
unfoldable pub mask_at : List ℕ → ℕ → Bits
mask_at ws k = bit_at 64 (four ws k)

-- a flag
unfoldable pub flag : ℕ → Bool
flag w = not (eqb w 0)

-- a driver's byte
unfoldable pub driver_of : ℕ → Driver
driver_of b = cond (eqb b 1) Host (cond (eqb b 2) Passthrough Unbound)

-- the byte of a driver
unfoldable pub byte_of : Driver → ℕ
byte_of Unbound = 0
byte_of Host = 1
byte_of Passthrough = 2

-- the limits
unfoldable pub limits_in : List ℕ → Limits
limits_in ws = record { adapter = min (get_or ws 0 0) 255; domain = min (get_or ws 1 0) 255 }

-- the host's masks
unfoldable pub host_in : List ℕ → HostMasks
host_in ws = record { apmask = mask_at ws apmask_at; aqmask = mask_at ws aqmask_at }

-- the configuration
unfoldable pub config_in : List ℕ → Config
config_in ws =
    record {
      adapters = mask_at ws config_at;
      domains = mask_at ws (config_at + 4);
      controls = mask_at ws (config_at + 8);
      types = λ a. cond (ltb a 256) (get_or ws (types_at + a) 0) 0;
    }

-- the device at a slot; there is none past the last slot
unfoldable pub device_in : List ℕ → ℕ → Device
device_in ws p =
    cond (ltb p slots)
    (record {
      present = flag (get_or ws (device_at p) 0);
      is_open = flag (get_or ws (device_at p + 1) 0);
      id = record { hi = get_or ws (device_at p + 2) 0; lo = get_or ws (device_at p + 3) 0 };
      adapters = mask_at ws (device_at p + 4);
      domains = mask_at ws (device_at p + 8);
      controls = mask_at ws (device_at p + 12);
    })
    no_device

-- the whole record
unfoldable pub state_in : List ℕ → List ℕ → State
state_in ws qs =
    record {
      limits = limits_in ws;
      host = host_in ws;
      config = config_in ws;
      device = device_in ws;
      driver = λ q. driver_of (get_or qs q 0);
    }

-- the four words of a mask
unfoldable pub words_of : Bits → List ℕ
words_of m = numbers 64 4 m 0

-- the words with those of a mask at word k
unfoldable pub put_four : List ℕ → ℕ → List ℕ → List ℕ
put_four ws k m = set (set (set (set ws k (get_or m 0 0)) (k + 1) (get_or m 1 0)) (k + 2) (get_or m 2 0)) (k + 3) (get_or m 3 0)

-- the words with the limits replaced
abbrev pub put_limits : List ℕ → ℕ → ℕ → List ℕ
put_limits ws a d = set (set ws 0 a) 1 d

-- the words with the assigned mask of a kind of the device at slot p replaced; past the last slot there is none
unfoldable pub put_numbers : List ℕ → ℕ → Kind → List ℕ → List ℕ
put_numbers ws p k m = cond (ltb p slots) (put_four ws (device_at p + kind_at k) m) ws

-- the words with the device at slot p opened or closed
unfoldable pub put_open : List ℕ → ℕ → Bool → List ℕ
put_open ws p o = cond (ltb p slots) (set ws (device_at p + 1) (cond o 1 0)) ws

-- the id of an empty slot
abbrev pub no_id : Id
no_id = record { hi = 0; lo = 0 }

-- four zeros
abbrev pub zeros : List ℕ
zeros = 0 ∷ 0 ∷ 0 ∷ 0 ∷ []

-- the words with slot p given an id, or emptied: nothing assigned, not open
unfoldable pub put_device : List ℕ → ℕ → Bool → Id → List ℕ
put_device ws p present i =
    cond (ltb p slots)
    (put_four (put_four (put_four (put_four ws (device_at p) (cond present 1 0 ∷ 0 ∷ i.hi ∷ i.lo ∷ [])) (device_at p + 4) zeros)
    (device_at p + 8) zeros) (device_at p + 12) zeros)
    ws

-- the words with the types of the first n adapters replaced
unfoldable pub put_types : List ℕ → (ℕ → ℕ) → ℕ → List ℕ
put_types ws f zero = ws
put_types ws f (suc n) = set (put_types ws f n) (types_at + n) (f n)

-- the words with the configuration replaced; the type of an adapter that is not configured is stored as 0
unfoldable pub put_config : List ℕ → Configuration → List ℕ
put_config ws c =
    put_types
    (put_four (put_four (put_four ws config_at c.adapters.words) (config_at + 4) c.domains.words)
    (config_at + 8) c.controls.words)
    (λ a. cond (bits c.adapters a) (get_or c.types a 0) 0) 256

-- the configuration of a fresh record
abbrev pub no_configuration : Configuration
no_configuration =
    record {
      adapters = record { words = zeros };
      domains = record { words = zeros };
      controls = record { words = zeros };
      types = replicate 256 0;
    }

-- the words with the first n slots emptied
unfoldable pub clear_slots : List ℕ → ℕ → List ℕ
clear_slots ws zero = ws
clear_slots ws (suc n) = put_device (clear_slots ws n) n false no_id

-- a word with all bits set
abbrev pub ones : ℕ
ones = 2 ^ 64 - 1

-- the words of a fresh record
unfoldable pub fresh_words : ℕ → ℕ → List ℕ
fresh_words a d = a ∷ d ∷ (replicate 8 ones ++ replicate (word_count - 10) 0)

-- the driver bytes with that of queue q cleared, if it is among those away
abbrev pub unbind_one : List ℕ → Bits → ℕ → List ℕ
unbind_one qs away q = cond (away q) (set qs q 0) qs

-- the driver bytes with those of the first n queues that are away cleared
unfoldable pub unbind : List ℕ → Bits → ℕ → List ℕ
unbind qs away zero = qs
unbind qs away (suc n) = unbind_one (unbind qs away n) away n

-- the queues that a configuration takes away from the one that the words hold
unfoldable pub taken_away : List ℕ → Configuration → Bits
taken_away ws c q = configured (config_in ws) q && not (configured (stored c) q)
