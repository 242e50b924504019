-- `locate` meets its contract: a return for each case.
use Rattle.std.proofs.Common.{Some, None, true, false, ◌≡◌, sym, ◌∙◌, arith}
use Rattle.std.proofs.lemmas.Result.{err_from_is_err_and}
use Rattle.errno.specs.declared.Errno.TheVariants.{Enoent}
use Rattle.admit.proofs.Laws.{in_range_small}
use Rattle.assignnumber.proofs.Laws.{no_device, by_range}
use Rattle.assignnumber.proofs.locate.Goals as goal

pub returns-in_err-slot : goal.returns-in_err-slot
returns-in_err-slot c =
    let a = c.args in
    let p = err_from_is_err_and c.from_residual.result c.from_residual.ensures.1 in
    let none : None ≡ c.find.result = grind arith in
    let e : c.in_err-slot.field-0.0 ≡ Enoent = grind arith in
    rw (p.1, p.2, e) (no_device a.kind a.id a.number a.words.now (none ∙ c.find.ensures))

pub returns-then-not-in_range : goal.returns-then-not-in_range
returns-then-not-in_range c =
    let a = c.args in
    let some : Some c.in_ok-slot.slot ≡ c.find.result = grind arith in
    by_range a.kind a.id a.number a.words.now (some ∙ c.find.ensures) false (sym (sym c.if-not-in_range.true ∙ c.in_range.ensures))

pub overflow_cast-result : goal.overflow_cast-result
overflow_cast-result c =
    let a = c.args in
    omega (arith, in_range_small a.kind a.words.now a.number (sym (sym c.if-not-in_range.false ∙ c.in_range.ensures)))

pub returns : goal.returns
returns c =
    let a = c.args in
    let some : Some c.in_ok-slot.slot ≡ c.find.result = grind arith in
    by_range a.kind a.id a.number a.words.now (some ∙ c.find.ensures) true (sym (sym c.if-not-in_range.false ∙ c.in_range.ensures))
