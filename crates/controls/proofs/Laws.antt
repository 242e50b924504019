-- Masks that are made of masks which are known; what holds of a guest's control mask holds of one with its bits.
-- Assumes nothing.
use Prim.Native.Nat.{ℕ}
use mathlib.Core.List.{List}
use mathlib.Core.Path.{◌≡◌, sym, ap₂, subst, ◌∙◌}
use Rattle.mask.specs.Bits.{Bits, bits}
use Rattle.mask.specs.declared.Mask.{Mask}
use Rattle.rules.specs.Queues.{guest_controls, ControlRule}
use Rattle.rules.proofs.Controls.{control_rule}
use Rattle.layout.specs.Layout.{state_in, device_in}
use Rattle.controls.specs.Controls.{GuestControls}

pub made : (f : Bits → Bits → Bits) {r a b x y : Bits} → r ≡ f a b → a ≡ x → b ≡ y → r ≡ f x y
made f p q s = p ∙ ap₂ f q s

pub its_controls : (ws : List ℕ) (slot : ℕ) (m : Mask) → ((qs : List ℕ) → bits m ≡ guest_controls (state_in ws qs) (device_in ws slot))
    → GuestControls ws slot m
its_controls ws slot m e =
    record {
      mask = e;
      rule = λ qs. let s = state_in ws qs in
          let v = device_in ws slot in
          subst (λ (b : Bits). ControlRule s v b) (sym (e qs)) (control_rule s v);
    }
