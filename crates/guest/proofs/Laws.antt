-- The queues that a guest can use, and the answer for an id.
-- Assumes nothing.
use Prim.Native.Nat.{ℕ}
use mathlib.Core.Path.{◌≡◌, sym, ap, ap₂}
use mathlib.Core.Bool.{Bool, false, cond, ◌&&◌}
use lib.Dec.{ltb}
use Rattle.std.proofs.Common.{Some, None}
use Rattle.errno.specs.Errno.{number_of}
use Rattle.errno.specs.declared.Errno.TheVariants.{Enoent}
use mathlib.Core.List.{List}
use Rattle.mask.specs.Bits.{Bits}
use Rattle.rules.specs.declared.Id.{Id}
use Rattle.rules.specs.State.{Device, in_product, slots, no_device}
use Rattle.rules.specs.Queues.{guest_adapters, guest_domains, usable}
use Rattle.rules.specs.Commands.{found, slot_of}
use Rattle.rules.proofs.First.{found_some, found_nothing}
use Rattle.layout.specs.Layout.{device_in, state_in}
use Rattle.layout.proofs.Laws.{cond_below, cond_past, device_past}
use Rattle.guest.specs.Masks.{usable_with}

-- a queue is usable where the device, which is at slot p, is open and the product of its guest masks has the queue
pub usable_there : (ws qs : List ℕ) (p : ℕ) {us ds : Bits} (q : ℕ) (x : Bool) → (device_in ws p).is_open ≡ x
    → us ≡ guest_adapters (state_in ws qs) (device_in ws p) → ds ≡ guest_domains (state_in ws qs) (device_in ws p)
    → (x && in_product us ds q) ≡ usable (state_in ws qs) (device_in ws p) q
unfolding usable
usable_there ws qs p q x o a d = sym (ap₂ ◌&&◌ o (ap₂ (λ (f g : Bits). in_product f g q) (sym a) (sym d)))

-- the device with an id, where it was found and where there is none
module _ (ws qs : List ℕ) (i : Id) (q : ℕ) where
  pub usable_found : {p : ℕ} → Some p ≡ found (slot_of i (device_in ws)) → usable (state_in ws qs) (device_in ws p) q ≡ usable_with i (state_in ws qs) q
  unfolding state_in
  usable_found h = ap (λ (n : ℕ). usable (state_in ws qs) (device_in ws n) q) (found_some h).1

  pub usable_nowhere : None ≡ found (slot_of i (device_in ws)) → false ≡ usable_with i (state_in ws qs) q
  unfolding usable state_in no_device
  usable_nowhere h = sym (ap (λ (v : Device). usable (state_in ws qs) v q) (device_past ws (slot_of i (device_in ws)) (found_nothing h)))

  -- the answer for it
  pub errno_found : {p : ℕ} → Some p ≡ found (slot_of i (device_in ws)) → 0 ≡ cond (ltb (slot_of i (device_in ws)) slots) 0 (number_of Enoent)
  errno_found h = let at = found_some h in sym (cond_below (slot_of i (device_in ws)) slots 0 (number_of Enoent) (rw at.1 at at.0))

  pub errno_nowhere : None ≡ found (slot_of i (device_in ws)) → number_of Enoent ≡ cond (ltb (slot_of i (device_in ws)) slots) 0 (number_of Enoent)
  errno_nowhere h = sym (cond_past (slot_of i (device_in ws)) slots 0 (number_of Enoent) (found_nothing h))
