-- `remove` meets its contract: a refusal of the check, or the effect.
use Rattle.std.proofs.Common.{ℕ, List, false, sym, ap, ◌∙◌}
use Rattle.std.proofs.lemmas.Result.{err_from_is_err_and}
use Rattle.rules.specs.State.{State, no_device}
use Rattle.rules.specs.Commands.{remove, with_device}
use Rattle.layout.specs.Layout.{state_in, put_device, no_id}
use Rattle.layout.proofs.Laws.{refused_carried, done_carried, read_none}
use Rattle.devices.specs.Effects.{removed}
use Rattle.devices.proofs.Laws.{check_refused, check_passed}
use Rattle.devices.proofs.remove.Goals as goal

-- the state with the device at a slot taken away
abbrev next : List ℕ → List ℕ → ℕ → State
next ws qs k = with_device k no_device (state_in ws qs)

pub returns-in_err-freed : goal.returns-in_err-freed
unfolding remove state_in
returns-in_err-freed c =
    let a = c.args in
    let p = err_from_is_err_and c.from_residual.result c.from_residual.ensures.1 in
    rw p.1
    (refused_carried (remove a.id) (removed a.id) a.words.now p.0
    (λ qs. check_refused a.id false a.words.now qs (next a.words.now qs) (rw p.2 c.in_err-freed.ensures)))

pub returns : goal.returns
unfolding remove state_in
returns c =
    let a = c.args in
    let ws = a.words.now in
    let passed = λ (qs : List ℕ). check_passed a.id false ws qs (next ws qs) c.in_ok-freed.ensures in
    let at = (passed ws).1 in
    let put : ℕ → List ℕ = λ k. put_device ws k false no_id in
    done_carried (remove a.id) (removed a.id) ws (λ qs. next ws qs c.in_ok-freed.freed) (c.put_device.ensures ∙ ap put at) (λ qs. (passed qs).2)
    (λ qs. ap (λ (k : ℕ). state_in (put k) qs) (sym at) ∙ read_none ws qs c.in_ok-freed.freed c.hold_words.ensures.long (passed ws).0)
