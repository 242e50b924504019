-- `configure` meets its contract: a refusal, or the effect.
use mathlib.Core.Path.{sym, ap, ◌∙◌}
use Rattle.mask.specs.Bits.{Bits}
use Rattle.rules.specs.State.{queues}
use Rattle.layout.specs.Layout.{unbind}
use Rattle.configure.proofs.Laws.{gone_away, config_refused, config_done}
use Rattle.configure.proofs.configure.Goals as goal

pub returns-then-beyond : goal.returns-then-beyond
returns-then-beyond c =
    let a = c.args in
    config_refused a.configuration a.words.now a.drivers.now (sym c.if-beyond.true ∙ c.beyond.ensures)

pub returns : goal.returns
returns c =
    let was = c in
    let drivers = was in
    let words = drivers in
    let test = words in
    let start = test in
    let a = start.args in
    let away = gone_away a.configuration a.words.now was.configured.result was.configured.ensures.members in
    config_done a.configuration a.words.now a.drivers.now (sym test.if-beyond.false ∙ test.beyond.ensures) c.put_configuration.ensures
    (c.unbind.ensures ∙ ap (λ (u : Bits). unbind a.drivers.now u queues) away)
    start.well_formed.1.1.0
    words.hold_words.ensures.long
    drivers.hold_drivers.ensures.long
