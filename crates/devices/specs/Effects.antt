-- What an accepted command of a device's life leaves in the words, and the check that the three commands have in common.
-- The rules: RULES.md, "Commands".
-- Assumes nothing.
use Rattle.std.specs.Prelude.{ℕ, Bool, true, false, cond, List, ltb, Result, Ok, Err}
use Rattle.errno.specs.declared.Errno.{Errno}
use Rattle.errno.specs.declared.Errno.TheVariants.{Ebusy, Einval, Enoent}
use Rattle.rules.specs.declared.Id.{Id}
use Rattle.rules.specs.State.{Devices, slots}
use Rattle.rules.specs.Commands.{slot_of}
use Rattle.layout.specs.Layout.{device_in, put_device, put_open, no_id}

-- the device's slot is emptied
abbrev pub removed : Id → List ℕ → List ℕ
removed i ws = put_device ws (slot_of i (device_in ws)) false no_id

-- the device is marked as open
abbrev pub opened : Id → List ℕ → List ℕ
opened i ws = put_open ws (slot_of i (device_in ws)) true

-- the device is marked as not open
abbrev pub closed : Id → List ℕ → List ℕ
closed i ws = put_open ws (slot_of i (device_in ws)) false

-- ---- for a private function

-- one of two, by whether a flag is as wanted
abbrev pub as_wanted : {A : Type 0} → Bool → Bool → A → A → A
as_wanted true o a b = cond o a b
as_wanted false o a b = cond o b a

-- the refusal of a device that is not as wanted: EINVAL where it is not open, EBUSY where it is
abbrev pub denial : Bool → Errno
denial wanted = cond wanted Einval Ebusy

-- the slot of the device with an id, which is open as wanted: ENOENT, then the denial
unfoldable pub slot_if : Id → Bool → Devices → Result ℕ Errno
slot_if i wanted vs =
    cond (ltb (slot_of i vs) slots) (as_wanted wanted (vs (slot_of i vs)).is_open (Ok (slot_of i vs)) (Err (denial wanted))) (Err Enoent)
