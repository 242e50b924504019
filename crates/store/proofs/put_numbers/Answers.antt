-- `put_numbers` meets its contract.
use native.Mathlib.Omega.{arith}
use borrow.Author.Tests.{lt-ltb, le-ltb}
use Rattle.layout.specs.Layout.{put_numbers}
use Rattle.layout.proofs.Laws.{slot_found, kind_small}
use Rattle.store.proofs.put_numbers.Goals as goal

pub returns-then-slot-lt-SLOTS : goal.returns-then-slot-lt-SLOTS
unfolding put_numbers
returns-then-slot-lt-SLOTS c = simp (lt-ltb c.args.slot 8 (omega arith), ← c.kind_at.ensures, ← slot_found {p = c.args.slot} (omega arith) c.slot_at.ensures) c.put_mask.ensures

pub overflow_add-slot_at : goal.overflow_add-slot_at
unfolding put_numbers
overflow_add-slot_at c = omega (arith, kind_small c.args.kind)

pub put_mask-requires : goal.put_mask-requires
unfolding put_numbers
put_mask-requires c = omega (arith, kind_small c.args.kind)

pub returns-else-slot-lt-SLOTS : goal.returns-else-slot-lt-SLOTS
unfolding put_numbers
returns-else-slot-lt-SLOTS c = simp (le-ltb _ _ c.if-slot-lt-SLOTS.false)
