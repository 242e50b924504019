-- `assign` meets its contract: the number that the text says, or the refusal of bad text.
use mathlib.Core.Path.{sym, ap, ◌∙◌}
use Rattle.std.proofs.lemmas.Result.{err_from_is_err_and}
use Rattle.errno.specs.Outcome.{granted, outcome}
use Rattle.assign.proofs.Laws.{assigned_by, not_assigned}
use Rattle.assign.proofs.assign.Goals as goal

pub returns-in_err-n : goal.returns-in_err-n
unfolding outcome
returns-in_err-n c =
    let a = c.args in
    let p = err_from_is_err_and c.from_residual.result c.from_residual.ensures.1 in
    rw (p.1, p.2) (not_assigned a.kind a.id a.text.now a.words.now c.in_err-n.field-0.0 (sym c.in_err-n.ensures))

pub returns : goal.returns
unfolding outcome
returns c =
    let a = c.args in
    assigned_by a.kind a.id a.text.now a.words.now c.from.result (sym c.in_ok-n.ensures ∙ ap granted (sym c.from.ensures)) c.assign.ensures.rule
