-- The control mask of a guest, of the record in memory.
-- The rules: RULES.md, "Guest masks".
-- Assumes nothing.
use Rattle.std.specs.Prelude.{ℕ, List, ◌≡◌}
use Rattle.mask.specs.Bits.{bits}
use Rattle.mask.specs.declared.Mask.{Mask}
use Rattle.rules.specs.Queues.{guest_controls, ControlRule}
use Rattle.layout.specs.Layout.{state_in, device_in}

-- m is the control mask of the guest of the device at a slot, and what follows for it; whatever the drivers are
pub record GuestControls (ws : List ℕ) (slot : ℕ) (m : Mask) : Type 0 where
  pub mask : (qs : List ℕ) → bits m ≡ guest_controls (state_in ws qs) (device_in ws slot)
  pub rule : (qs : List ℕ) → ControlRule (state_in ws qs) (device_in ws slot) (bits m)
