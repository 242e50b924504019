-- `create` meets its contract: a refusal or the effect at each return.
use Rattle.std.proofs.Common.{ℕ, List, Some, None, true, ◌≡◌, sym, ap, ◌∙◌, arith}
use Rattle.std.proofs.lemmas.Result.{err_from_is_err_and}
use Rattle.errno.specs.declared.Errno.TheVariants.{Eexist, Enospc}
use Rattle.rules.specs.Commands.{create, with_device, new_device}
use Rattle.rules.proofs.First.{found_some}
use Rattle.layout.specs.Layout.{state_in, put_device}
use Rattle.layout.proofs.Laws.{refused_carried, done_carried, read_new}
use Rattle.create.specs.Created.{created}
use Rattle.create.proofs.Laws.{create_known, create_full, create_new}
use Rattle.create.proofs.create.Goals as goal

pub returns-then-is_some : goal.returns-then-is_some
returns-then-is_some c =
    let a = c.args in
    refused_carried (create a.id) (created a.id) a.words.now Eexist
    (λ qs. create_known a.id a.words.now qs c.find.result c.if-is_some.ensures c.find.ensures)

pub returns-in_err-slot : goal.returns-in_err-slot
returns-in_err-slot c =
    let a = c.args in
    let p = err_from_is_err_and c.from_residual.result c.from_residual.ensures.1 in
    let full : None ≡ c.free.result = grind arith in
    let e : c.in_err-slot.field-0.0 ≡ Enospc = grind arith in
    let none : None ≡ c.find.result = grind arith in
    rw (p.1, p.2, e)
    (refused_carried (create a.id) (created a.id) a.words.now Enospc
    (λ qs. create_full a.id a.words.now qs (none ∙ c.find.ensures) (full ∙ c.free.ensures)))

pub returns : goal.returns
returns c =
    let a = c.args in
    let ws = a.words.now in
    let none : None ≡ c.find.result = grind arith in
    let some : Some c.in_ok-slot.slot ≡ c.free.result = grind arith in
    let at = found_some (some ∙ c.free.ensures) in
    let slot : ℕ → List ℕ = λ p. put_device ws p true a.id in
    done_carried (create a.id) (created a.id) ws (λ qs. with_device c.in_ok-slot.slot (new_device a.id) (state_in ws qs))
    (c.put_device.ensures ∙ ap slot at.1)
    (λ qs. create_new a.id ws qs (none ∙ c.find.ensures) (some ∙ c.free.ensures))
    (λ qs. ap (λ (l : List ℕ). state_in l qs) (ap slot (sym at.1)) ∙ read_new ws qs c.in_ok-slot.slot c.hold_words.ensures.long at.0 a.id)
