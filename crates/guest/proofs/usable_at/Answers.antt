-- `usable_at` meets its contract.
use mathlib.Core.Path.{refl, sym, ap, ◌∙◌}
use mathlib.Core.Bool.{true, false}
use Rattle.rules.specs.State.{apqn}
use Rattle.rules.specs.Queues.{matrix_adapters, matrix_domains}
use Rattle.product.specs.Meet.{queues_of}
use Rattle.product.proofs.Laws.{has_test}
use Rattle.guest.proofs.Laws.{usable_there}
use Rattle.guest.proofs.usable_at.Goals as goal

pub returns-then-not-is_open : goal.returns-then-not-is_open
returns-then-not-is_open c =
    let f = c in
    let a = f.args in
    usable_there a.words.now a.drivers.now a.slot (apqn a.queue.adapter a.queue.domain) false
    (sym c.is_open.ensures ∙ c.if-not-is_open.true) refl refl

pub returns : goal.returns
unfolding matrix_adapters matrix_domains
returns c =
    let p = c in
    let m = p in
    let o = m in
    let f = o in
    let a = f.args in
    has_test (apqn a.queue.adapter a.queue.domain) c.has.ensures (ap queues_of p.from.ensures)
    ∙ usable_there a.words.now a.drivers.now a.slot (apqn a.queue.adapter a.queue.domain) true
    (sym o.is_open.ensures ∙ o.if-not-is_open.false) m.masks_at.ensures.adapters m.masks_at.ensures.domains
