-- `paired` meets its contract.
use mathlib.Core.Path.{sym, ap, ap₂, ◌∙◌}
use Rattle.rules.specs.State.{in_product}
use Rattle.rules.specs.declared.Kind.{Kind}
use Rattle.rules.specs.Commands.{numbers_of, paired}
use Rattle.layout.specs.Layout.{device_in}
use Rattle.admit.proofs.Laws.{one_bit}
use Rattle.admit.proofs.paired.Goals as goal

pub returns-in-Adapter : goal.returns-in-Adapter
unfolding paired numbers_of
returns-in-Adapter c =
    let a = c.args in
    ap₂ in_product (one_bit a.number c.with-one.ensures c.empty.ensures) c.numbers.ensures
    ∙ ap (λ (k : Kind). paired k a.number (device_in a.words.now a.slot)) (sym c.in-Adapter.is)

pub returns-in-Domain : goal.returns-in-Domain
unfolding paired numbers_of
returns-in-Domain c =
    let a = c.args in
    ap₂ in_product c.numbers-in-Domain.ensures (one_bit a.number c.with-one.ensures c.empty.ensures)
    ∙ ap (λ (k : Kind). paired k a.number (device_in a.words.now a.slot)) (sym c.in-Domain.is)

pub returns-in-Control : goal.returns-in-Control
unfolding paired
returns-in-Control c =
    let a = c.args in
    c.empty-in-Control.ensures.members ∙ ap (λ (k : Kind). paired k a.number (device_in a.words.now a.slot)) (sym c.in-Control.is)
