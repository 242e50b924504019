-- What a call that looks at devices leaves: a record over what its references hold, then its name over lent memory.
-- Assumes nothing.
use Rattle.std.specs.Prelude.{ℕ, ◌≤◌, ◌<◌, true, false, List, ◌≡◌}
use Rattle.std.specs.Borrow.{MutBor}
use Rattle.errno.specs.Errno.{number_of}
use Rattle.errno.specs.declared.Errno.TheVariants.{Enoent}
use Rattle.rules.specs.State.{Device, Devices, slots}
use Rattle.layout.specs.Lent.{LentMut}
use Rattle.holder.specs.Holder.{holder_of}
use Rattle.idbytes.specs.IdBytes.{AsBytes}
use Rattle.shown.specs.Shown.{bit}

-- a slot: r is the errno value; the bytes of the device's id are left, and whether it is open; or both are as they were
pub record DeviceLeft (v : Device) (before after : List ℕ) (mark mark' r : ℕ) : Type 0 where
  pub there : v.present ≡ true → (r ≡ 0) × AsBytes v.id after × (mark' ≡ bit v.is_open)
  pub absent : v.present ≡ false → (r ≡ number_of Enoent) × (after ≡ before) × (mark' ≡ mark)

-- the device that has queue q: the bytes of its id are left, or what was there where no device has it
pub record HolderLeft (vs : Devices) (q : ℕ) (before after : List ℕ) (r : ℕ) : Type 0 where
  pub held : holder_of vs q < slots → (r ≡ 0) × AsBytes (vs (holder_of vs q)).id after
  pub free : slots ≤ holder_of vs q → (r ≡ number_of Enoent) × (after ≡ before)

-- the same of lent memory at entry and at exit
abbrev pub DeviceShown : Device → LentMut → LentMut → MutBor ℕ → MutBor ℕ → ℕ → Type 0
DeviceShown v before after mark mark' r = DeviceLeft v before.now after.now mark.now mark'.now r

abbrev pub HolderShown : Devices → ℕ → LentMut → LentMut → ℕ → Type 0
HolderShown vs q before after r = HolderLeft vs q before.now after.now r
