-- `put_device` meets its contract: the flags and the id are put, then three masks.
use Rattle.std.proofs.Common.{◌≡◌, ℕ, ◌+◌, ◌<◌, sym, ap, ◌∙◌, arith, List}
use borrow.Author.Tests.{le-ltb}
use Rattle.rules.specs.declared.Kind.TheVariants.{Adapter, Domain, Control}
use Rattle.rules.specs.State.{slots}
use Rattle.layout.specs.Layout.{device_at, put_four, zeros, put_device}
use Rattle.layout.proofs.Laws.{slot_found, cond_below, empty_words}
use Rattle.store.proofs.Laws.{flag_byte, head_put, none_put}
use Rattle.store.proofs.put_device.Goals as goal

pub returns-then-slot-lt-SLOTS : goal.returns-then-slot-lt-SLOTS
unfolding put_device
returns-then-slot-lt-SLOTS c =
    let a = c.args in
    let k = device_at a.slot in
    let h : a.slot < slots = omega arith in
    let none : c.empty-none.result.words ≡ zeros = empty_words c.empty-none.result c.empty-none.type_inv c.empty-none.ensures in
    c.put_numbers-then-slot-lt-SLOTS-2.ensures ∙ none_put _ a.slot Control _ h none ∙ ap (λ (l : List ℕ). put_four l (k + 12) zeros)
    (c.put_numbers-then-slot-lt-SLOTS.ensures ∙ none_put _ a.slot Domain _ h none ∙ ap (λ (l : List ℕ). put_four l (k + 8) zeros)
    (c.put_numbers.ensures ∙ none_put _ a.slot Adapter _ h none ∙ ap (λ (l : List ℕ). put_four l (k + 4) zeros)
    (head_put a.words.now _ k _ _ a.id.hi a.id.lo (slot_found (omega arith) c.slot_at-k.ensures) (c.from.ensures ∙ flag_byte a.present))))
    ∙ sym (cond_below a.slot slots _ a.words.now h)

pub returns-else-slot-lt-SLOTS : goal.returns-else-slot-lt-SLOTS
unfolding put_device
returns-else-slot-lt-SLOTS c = simp (le-ltb _ _ c.if-slot-lt-SLOTS.false)
