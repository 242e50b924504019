-- `assign` meets its contract: the rule where the number goes.
use Rattle.std.proofs.lemmas.Result.{err_from_is_err_and}
use Rattle.rules.specs.Commands.{assign_at}
use Rattle.assignnumber.specs.Numbers.{assigned_to, assigned_at}
use Rattle.assignnumber.proofs.Laws.{goes, at_located, not_located, exact}
use Rattle.assignnumber.proofs.assign.Goals as goal

pub assign_at-requires : goal.assign_at-requires
assign_at-requires c =
    let a = c.args in
    (goes a.kind a.id a.number a.words.now c.in_ok-slot.ensures).there

pub returns-in_err-slot : goal.returns-in_err-slot
returns-in_err-slot c =
    let a = c.args in
    let p = err_from_is_err_and c.from_residual.result c.from_residual.ensures.1 in
    let done = not_located a.kind a.id a.number a.words.now (assign_at a.kind) (assigned_to a.kind a.id a.number) c.in_err-slot.ensures in
    rw (p.1, p.2) (record { rule = done; exactly = exact a.kind a.id a.number a.words.now done })

pub returns : goal.returns
returns c =
    let a = c.args in
    let done = at_located a.kind a.id a.number a.words.now (assign_at a.kind) (assigned_at a.kind) c.in_ok-slot.ensures c.assign_at.ensures in
    (record { rule = done; exactly = exact a.kind a.id a.number a.words.now done })
