-- `put_open` meets its contract.
use Rattle.std.proofs.Common.{ap, ◌∙◌, ◌+◌, arith, set}
use borrow.Author.Tests.{lt-ltb, le-ltb}
use Rattle.layout.specs.Layout.{device_at, put_open}
use Rattle.layout.proofs.Laws.{slot_found}
use Rattle.store.proofs.Laws.{flag_byte}
use Rattle.store.proofs.put_open.Goals as goal

pub returns-then-slot-lt-SLOTS : goal.returns-then-slot-lt-SLOTS
unfolding put_open
returns-then-slot-lt-SLOTS c =
    let a = c.args in
    simp (lt-ltb a.slot 8 (omega arith), slot_found {p = a.slot} (omega arith) c.slot_at.ensures) (ap (set a.words.now (device_at a.slot + 1)) (c.from.ensures ∙ flag_byte a.opened))

pub returns-else-slot-lt-SLOTS : goal.returns-else-slot-lt-SLOTS
unfolding put_open
returns-else-slot-lt-SLOTS c = simp (le-ltb _ _ c.if-slot-lt-SLOTS.false)
