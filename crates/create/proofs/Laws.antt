-- The rule of a new device.
-- Assumes nothing.
use Rattle.std.proofs.Common.{Option, Some, None, true}
use Rattle.std.specs.Option.{is_some}
use Rattle.rules.proofs.First.{found_some, found_nothing}
use Prim.Native.Nat.{ℕ}
use mathlib.Core.Bool.{cond}
use mathlib.Core.List.{List}
use mathlib.Core.Path.{◌≡◌, sym, ap, ◌∙◌}
use lib.Dec.{ltb}
use Rattle.errno.specs.Outcome.{Outcome, granted, refused}
use Rattle.errno.specs.declared.Errno.TheVariants.{Eexist, Enospc}
use Rattle.rules.specs.declared.Id.{Id}
use Rattle.rules.specs.State.{State, slots}
use Rattle.rules.specs.Commands.{found, slot_of, free_slot, with_device, new_device, create}
use Rattle.layout.specs.Layout.{device_in, state_in}
use Rattle.layout.proofs.Laws.{cond_below, cond_past}

-- a new device's rule, by what the searches for its id and for a free slot found
module _ (i : Id) (ws qs : List ℕ) where
  made : ℕ → Outcome State
  made k = cond (ltb k slots) (granted (with_device k (new_device i) (state_in ws qs))) (refused Enospc)

  pub create_known : (o : Option ℕ) → true ≡ is_some o → o ≡ found (slot_of i (device_in ws)) → create i (state_in ws qs) ≡ refused Eexist
  unfolding create state_in
  create_known None some h = cc
  create_known (Some p) some h = let at = found_some h in cond_below (slot_of i (device_in ws)) slots (refused Eexist) _ (rw at.1 at at.0)

  pub create_full : None ≡ found (slot_of i (device_in ws)) → None ≡ found (free_slot (device_in ws)) → create i (state_in ws qs) ≡ refused Enospc
  unfolding create state_in made
  create_full h l =
      cond_past (slot_of i (device_in ws)) slots (refused Eexist) (made (free_slot (device_in ws))) (found_nothing h)
      ∙ cond_past (free_slot (device_in ws)) slots _ (refused Enospc) (found_nothing l)

  pub create_new : {f : ℕ} → None ≡ found (slot_of i (device_in ws)) → Some f ≡ found (free_slot (device_in ws))
      → create i (state_in ws qs) ≡ granted (with_device f (new_device i) (state_in ws qs))
  unfolding create state_in made
  create_new {f} h l =
      let at = found_some l in
      cond_past (slot_of i (device_in ws)) slots (refused Eexist) (made (free_slot (device_in ws))) (found_nothing h)
      ∙ sym (ap made at.1) ∙ cond_below f slots _ (refused Enospc) at.0
