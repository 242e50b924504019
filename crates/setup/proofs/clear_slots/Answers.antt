-- `clear_slots` meets its contract. The loop's invariant: the slots passed are emptied.
use Prim.Native.Nat.{ℕ}
use native.Mathlib.Numerals.{add-one}
use mathlib.Core.Bool.{false}
use mathlib.Core.List.{List}
use mathlib.Core.Path.{refl, sym, ap, ◌∙◌}
use Rattle.layout.specs.Layout.{no_id, put_device, clear_slots}
use Rattle.setup.proofs.clear_slots.Goals as goal

pub loop-slot-preserved : goal.loop-slot-preserved
unfolding clear_slots
loop-slot-preserved c =
    let l = c.loop-slot in
    c.put_device.ensures ∙ ap (λ (ws : List ℕ). put_device ws l.slot false no_id) l.invariant ∙ ap (clear_slots c.args.words.now) (sym (add-one l.slot))

pub loop-slot-init : goal.loop-slot-init
unfolding clear_slots
loop-slot-init c = refl
