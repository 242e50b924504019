-- What lent memory holds at a moment, so that a contract can say it of `words.entry` and `drivers.exit`.
-- The rules: RULES.md, "Record".
-- Assumes nothing.
use Rattle.std.specs.Prelude.{ℕ, List}
use Rattle.std.specs.Borrow.{Bor, MutBor}
use Rattle.rules.specs.declared.Id.{Id}
use Rattle.rules.specs.State.{Limits, HostMasks, Config, Device, Devices, State}
use Rattle.rules.specs.Commands.{slot_of}
use Rattle.layout.specs.Layout.{limits_in, host_in, config_in, device_in, state_in}

-- lent numbers
abbrev pub Lent : Type 0
Lent = Bor (List ℕ)

-- lent numbers that may be changed
abbrev pub LentMut : Type 0
LentMut = MutBor (List ℕ)

-- the parts of the words
abbrev pub limits : Lent → Limits
limits words = limits_in words.now

abbrev pub host : Lent → HostMasks
host words = host_in words.now

abbrev pub config : Lent → Config
config words = config_in words.now

abbrev pub devices : Lent → Devices
devices words = device_in words.now

-- the device with an id; an empty slot where there is none
abbrev pub device_with : Id → Devices → Device
device_with i vs = vs (slot_of i vs)

-- the whole record
abbrev pub state : Lent → Lent → State
state words drivers = state_in words.now drivers.now
