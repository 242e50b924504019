-- `assign_at` meets its contract: a return for each case of the rule.
use Prim.Native.Nat.{ℕ}
use mathlib.Core.Path.{sym, ap, ◌∙◌}
use mathlib.Core.List.{List}
use Rattle.std.proofs.lemmas.Result.{err_from_is_err_and}
use Rattle.mask.specs.Bits.{Bits, included}
use Rattle.mask.proofs.Laws.{mask_words_lem}
use Rattle.rules.specs.Commands.{assign_at, numbers_of, with_device, with_numbers}
use Rattle.layout.specs.Layout.{device_in, state_in}
use Rattle.layout.proofs.Laws.{refused_carried, done_carried}
use Rattle.product.specs.Meet.{queues_of}
use Rattle.assignnumber.specs.Numbers.{assigned_at}
use Rattle.admit.proofs.Laws.{refused_as, done_as}
use Rattle.assignnumber.proofs.Laws.{same_words, assigned_already, new_number, put_changed, read_changed}
use Rattle.assignnumber.proofs.assign_at.Goals as goal

pub returns-then-has : goal.returns-then-has
returns-then-has c =
    let a = c.args in
    let ws = a.words.now in
    let has = sym (c.has.ensures ∙ ap (λ (m : Bits). m a.number) c.numbers-m.ensures) ∙ c.if-has.true in
    let same = same_words ws a.kind a.slot c.hold_words.ensures c.requires a.number has in
    done_carried (assign_at a.kind a.number a.slot) (assigned_at a.kind a.slot a.number) ws (λ qs. state_in ws qs) same (λ qs. assigned_already a.kind a.number a.slot ws qs has) (λ qs. ap (λ (l : List ℕ). state_in l qs) (sym same))

pub returns-in_err-admitted : goal.returns-in_err-admitted
returns-in_err-admitted c =
    let a = c.args in
    let ws = a.words.now in
    let none = sym (c.has.ensures ∙ ap (λ (m : Bits). m a.number) c.numbers-m.ensures) ∙ c.if-has.false in
    let new = c.paired-wanted in
    let p = err_from_is_err_and c.from_residual.result c.from_residual.ensures.1 in
    rw (p.1, p.2)
    (refused_carried (assign_at a.kind a.number a.slot) (assigned_at a.kind a.slot a.number) ws _
    (λ qs. new_number a.kind a.number a.slot ws qs (queues_of new.result) new.ensures none (refused_as _ _ (c.in_err-admitted.ensures qs _))))

pub returns : goal.returns
returns c =
    let a = c.args in
    let ws = a.words.now in
    let none = sym (c.has.ensures ∙ ap (λ (m : Bits). m a.number) c.numbers-m.ensures) ∙ c.if-has.false in
    let new = c.paired-wanted in
    let m = c.with.result in
    let words = mask_words_lem m c.with.type_inv in
    let made = c.with.ensures ∙ ap (included a.number) c.numbers-m.ensures in
    let held = c.hold_words.ensures in
    let there = c.requires in
    done_carried (assign_at a.kind a.number a.slot) (assigned_at a.kind a.slot a.number) ws
    (λ qs. with_device a.slot (with_numbers a.kind (included a.number (numbers_of a.kind (device_in ws a.slot))) (device_in ws a.slot)) (state_in ws qs))
    (c.put_numbers.ensures ∙ put_changed ws a.kind a.slot held there (included a.number) m words made)
    (λ qs. new_number a.kind a.number a.slot ws qs (queues_of new.result) new.ensures none
    (done_as (queues_of new.result) a.slot (state_in ws qs) _ (c.in_ok-admitted.ensures qs _)))
    (read_changed ws a.kind a.slot held there (included a.number) m words made)
