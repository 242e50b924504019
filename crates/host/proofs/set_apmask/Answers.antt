-- `set_apmask` meets its contract: a refusal of the text or of the queues, or the effect.
use Rattle.std.proofs.Common.{ℕ, List, ap, refl, ◌∙◌}
use Rattle.std.proofs.lemmas.Result.{err_from_is_err_and}
use Rattle.mask.specs.Bits.{Bits, bits}
use Rattle.masktext.specs.Text.{outcome, mask_text}
use Rattle.rules.specs.State.{HostMasks, in_product}
use Rattle.rules.specs.Queues.{reserved}
use Rattle.rules.specs.Commands.{set_apmask}
use Rattle.layout.specs.Layout.{apmask_at, aqmask_at, mask_at, device_in, host_in, state_in}
use Rattle.layout.proofs.Laws.{read_apmask}
use Rattle.host.specs.Masks.{unassigned}
use Rattle.host.proofs.Laws.{text_refused, mask_refused, mask_set}
use Rattle.host.proofs.set_apmask.Goals as goal

-- the host's masks with apmask replaced
abbrev host : List ℕ → Bits → HostMasks
host ws m = record { apmask = m; aqmask = mask_at ws aqmask_at }

pub returns-in_err-reserved : goal.returns-in_err-reserved
unfolding set_apmask state_in host_in outcome
returns-in_err-reserved c =
    let ws = c.args.words.now in
    let text = c.args.text.now in
    let p = err_from_is_err_and c.from_residual.result c.from_residual.ensures.1 in
    rw (p.1, p.2)
    (text_refused text ws apmask_at (host ws) (set_apmask text) (λ qs. refl) (λ m l qs. read_apmask ws qs m c.hold_words.ensures.long l)
    (c.in_err-reserved.ensures ∙ ap (mask_text text) c.reserved-reserved.ensures.adapters))

pub returns-in_err-check_unassigned : goal.returns-in_err-check_unassigned
unfolding set_apmask state_in host_in reserved outcome
returns-in_err-check_unassigned c =
    let ws = c.args.words.now in
    let text = c.args.text.now in
    let p = err_from_is_err_and c.from_residual-in_err-check_unassigned.result c.from_residual-in_err-check_unassigned.ensures.1 in
    rw (p.1, p.2)
    (mask_refused text ws apmask_at (host ws) (set_apmask text) (λ qs. refl) (λ m l qs. read_apmask ws qs m c.hold_words.ensures.long l)
    c.in_ok-reserved.field-0 (c.in_ok-reserved.ensures ∙ ap (mask_text text) c.reserved-reserved.ensures.adapters)
    (c.in_err-check_unassigned.ensures.answer ∙ ap (λ (m : Bits). unassigned (in_product (bits c.in_ok-reserved.field-0) m) (device_in ws)) c.reserved-reserved.ensures.domains))

pub returns : goal.returns
unfolding set_apmask state_in host_in reserved outcome
returns c =
    let ws = c.args.words.now in
    let text = c.args.text.now in
    mask_set text ws apmask_at (host ws) (set_apmask text) (λ qs. refl) (λ m l qs. read_apmask ws qs m c.hold_words.ensures.long l)
    c.in_ok-reserved.field-0 (c.in_ok-reserved.ensures ∙ ap (mask_text text) c.reserved-reserved.ensures.adapters)
    (c.in_ok-check_unassigned.ensures.answer ∙ ap (λ (m : Bits). unassigned (in_product (bits c.in_ok-reserved.field-0) m) (device_in ws)) c.reserved-reserved.ensures.domains)
    c.in_ok-check_unassigned.ensures.sized.0
    c.put_apmask.ensures
