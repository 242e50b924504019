-- `put_fresh` meets its contract: its parts make up every word.
use Prim.Native.Nat.{ℕ}
use mathlib.Core.Path.{◌≡◌, ap, ap₂, ◌∙◌}
use mathlib.Core.List.{List}
use Rattle.rules.specs.State.{slots}
use Rattle.layout.specs.Layout.{apmask_at, aqmask_at, put_four, put_config, clear_slots}
use Rattle.layout.proofs.Laws.{all_ones, full_words}
use Rattle.layout.proofs.Fresh.{fresh_over_any}
use Rattle.setup.proofs.put_fresh.Goals as goal

pub returns : goal.returns
returns c =
    let a = c.args in
    let all : c.full-ones.result.words ≡ all_ones = full_words c.full-ones.result c.full-ones.type_inv c.full-ones.ensures in
    c.clear_slots.ensures
    ∙ ap (λ (ws : List ℕ). clear_slots ws slots)
    (c.put_configuration.ensures
    ∙ ap₂ put_config
    (c.put_aqmask.ensures ∙ ap (put_four _ aqmask_at) all
    ∙ ap (λ (ws : List ℕ). put_four ws aqmask_at all_ones)
    (c.put_apmask.ensures ∙ ap (put_four _ apmask_at) all
    ∙ ap (λ (ws : List ℕ). put_four ws apmask_at all_ones) c.put_limits.ensures))
    c.nothing_configured.ensures)
    ∙ fresh_over_any a.words.now a.adapter.0 a.domain.0
    c.hold_words.ensures.long
