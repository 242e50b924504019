-- `clear_slots` meets its contract. The loop's invariant: the slots passed are emptied.
use mathlib.Core.Path.{◌≡◌}
use Rattle.layout.specs.Layout.{clear_slots}
use Rattle.setup.proofs.clear_slots.Given as goal

abbrev pub invariant-loop-slot : goal.invariant-loop-slot
invariant-loop-slot l = l.words ≡ clear_slots l.initial.words l.slot
