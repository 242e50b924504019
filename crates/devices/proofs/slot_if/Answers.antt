-- `slot_if` meets its contract, by what the search for the id found.
use Rattle.std.proofs.Common.{Err, Some, None, true, false, ◌≡◌, sym, ap, ◌∙◌, arith}
use Rattle.std.proofs.lemmas.Result.{err_from_is_err_and}
use mathlib.Core.Bool.{Bool, beq}
use borrow.Author.Tests.{not-true, not-false}
use Rattle.errno.specs.declared.Errno.TheVariants.{Enoent}
use Rattle.layout.specs.Layout.{device_in}
use Rattle.devices.specs.Effects.{denial}
use Rattle.devices.proofs.Laws.{nowhere, by_open}
use Rattle.devices.proofs.slot_if.Goals as goal

pub returns-in_err-slot : goal.returns-in_err-slot
returns-in_err-slot c =
    let a = c.args in
    let p = err_from_is_err_and c.from_residual.result c.from_residual.ensures.1 in
    let none : None ≡ c.find.result = grind arith in
    let e : c.in_err-slot.field-0.0 ≡ Enoent = grind arith in
    rw (p.1, p.2, e) (nowhere a.id a.wanted (device_in a.words.now) (none ∙ c.find.ensures))

pub returns-then-wanted : goal.returns-then-wanted
returns-then-wanted c =
    let a = c.args in
    let some : Some c.in_ok-slot.slot ≡ c.find.result = grind arith in
    ap (λ (b : Bool). Err (denial b)) (sym c.if-wanted.true)
    ∙ by_open a.id a.wanted (device_in a.words.now) false (some ∙ c.find.ensures)
    (sym (not-true _ c.if-is_open-wanted.true) ∙ ap (λ (b : Bool). beq b a.wanted) c.is_open.ensures)

pub returns-else-wanted : goal.returns-else-wanted
returns-else-wanted c =
    let a = c.args in
    let some : Some c.in_ok-slot.slot ≡ c.find.result = grind arith in
    ap (λ (b : Bool). Err (denial b)) (sym c.if-wanted.false)
    ∙ by_open a.id a.wanted (device_in a.words.now) false (some ∙ c.find.ensures)
    (sym (not-true _ c.if-is_open-wanted.true) ∙ ap (λ (b : Bool). beq b a.wanted) c.is_open.ensures)

pub returns : goal.returns
returns c =
    let a = c.args in
    let some : Some c.in_ok-slot.slot ≡ c.find.result = grind arith in
    by_open a.id a.wanted (device_in a.words.now) true (some ∙ c.find.ensures)
    (sym (not-false _ c.if-is_open-wanted.false) ∙ ap (λ (b : Bool). beq b a.wanted) c.is_open.ensures)
