-- `open` meets its contract: a refusal of the check, or the effect.
use Rattle.std.proofs.Common.{ℕ, List, true, false, sym, ap, ◌∙◌}
use Rattle.std.proofs.lemmas.Result.{err_from_is_err_and}
use Rattle.rules.specs.State.{State}
use Rattle.rules.specs.Commands.{open_device, with_device, with_open}
use Rattle.layout.specs.Layout.{device_in, state_in, put_open}
use Rattle.layout.proofs.Laws.{refused_carried, done_carried, read_open}
use Rattle.devices.specs.Effects.{opened}
use Rattle.devices.proofs.Laws.{check_refused, check_passed}
use Rattle.devices.proofs.open.Goals as goal

-- the state with the device at a slot open
abbrev next : List ℕ → List ℕ → ℕ → State
next ws qs k = with_device k (with_open true (device_in ws k)) (state_in ws qs)

pub returns-in_err-slot : goal.returns-in_err-slot
unfolding open_device state_in
returns-in_err-slot c =
    let a = c.args in
    let p = err_from_is_err_and c.from_residual.result c.from_residual.ensures.1 in
    rw p.1
    (refused_carried (open_device a.id) (opened a.id) a.words.now p.0
    (λ qs. check_refused a.id false a.words.now qs (next a.words.now qs) (rw p.2 c.in_err-slot.ensures)))

pub returns : goal.returns
unfolding open_device state_in
returns c =
    let a = c.args in
    let ws = a.words.now in
    let passed = λ (qs : List ℕ). check_passed a.id false ws qs (next ws qs) c.in_ok-slot.ensures in
    let at = (passed ws).1 in
    let put : ℕ → List ℕ = λ k. put_open ws k true in
    done_carried (open_device a.id) (opened a.id) ws (λ qs. next ws qs c.in_ok-slot.slot) (c.put_open.ensures ∙ ap put at) (λ qs. (passed qs).2)
    (λ qs. ap (λ (k : ℕ). state_in (put k) qs) (sym at) ∙ read_open ws qs c.in_ok-slot.slot c.hold_words.ensures.long (passed ws).0 true)
