-- `unassign` meets its contract: the number that the text says, or the refusal of bad text.
use mathlib.Core.Path.{sym, ap, ◌∙◌}
use Rattle.std.proofs.lemmas.Result.{err_from_is_err_and}
use Rattle.errno.specs.Outcome.{granted, outcome}
use Rattle.assign.proofs.Laws.{unassigned_by, not_unassigned}
use Rattle.assign.proofs.unassign.Goals as goal

pub returns-in_err-n : goal.returns-in_err-n
unfolding outcome
returns-in_err-n c =
    let a = c.args in
    let p = err_from_is_err_and c.from_residual.result c.from_residual.ensures.1 in
    rw (p.1, p.2) (not_unassigned a.kind a.id a.text.now a.words.now c.in_err-n.field-0.0 (sym c.in_err-n.ensures))

pub returns : goal.returns
unfolding outcome
returns c =
    let a = c.args in
    unassigned_by a.kind a.id a.text.now a.words.now c.from.result (sym c.in_ok-n.ensures ∙ ap granted (sym c.from.ensures)) c.unassign.ensures
