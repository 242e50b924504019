-- `unassign_at` meets its contract.
use mathlib.Core.Path.{refl, ap, ◌∙◌}
use Rattle.mask.specs.Bits.{excluded}
use Rattle.mask.proofs.Laws.{mask_words_lem}
use Rattle.rules.specs.Commands.{unassign_at, numbers_of, with_device, with_numbers}
use Rattle.layout.specs.Layout.{device_in, state_in}
use Rattle.layout.proofs.Laws.{done_carried}
use Rattle.assignnumber.specs.Numbers.{unassigned_at}
use Rattle.assignnumber.proofs.Laws.{put_changed, read_changed}
use Rattle.assignnumber.proofs.unassign_at.Goals as goal

pub returns : goal.returns
unfolding state_in
returns c =
    let s = c in
    let a = s.args in
    let ws = a.words.now in
    let m = c.without.result in
    let words = mask_words_lem m c.without.type_inv in
    let made = c.without.ensures ∙ ap (excluded a.number) c.numbers-m.ensures in
    let held = c.hold_words.ensures in
    done_carried (unassign_at a.kind a.number a.slot) (unassigned_at a.kind a.slot a.number) ws
    (λ qs. with_device a.slot (with_numbers a.kind (excluded a.number (numbers_of a.kind (device_in ws a.slot))) (device_in ws a.slot)) (state_in ws qs))
    (c.put_numbers.ensures ∙ put_changed ws a.kind a.slot held s.requires (excluded a.number) m words made)
    (λ qs. refl)
    (read_changed ws a.kind a.slot held s.requires (excluded a.number) m words made)
