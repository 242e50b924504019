-- `step` meets its contract: a command, a sweep or a move, by the operation.
use Rattle.std.proofs.Common.{◌≡◌, ◌<◌, ◌∙◌, ap₂, sym, arith, get_or}
use Rattle.encoding.specs.Encoding.{move}
use Rattle.request.proofs.Laws.{as_asked, is_move}
use Rattle.run.proofs.Laws.{of_budget}
use Rattle.run.proofs.step.Goals as goal

pub returns-in-10 : goal.returns-in-10
returns-in-10 c = as_asked (of_budget c.args.bytes.now c.in-10.is c.number_of.ensures) c.make_sweep.ensures

pub returns-in_default : goal.returns-in_default
returns-in_default c =
    let b = c.args.bytes.now in
    let above : 8 < get_or b 0 0 = omega arith in
    let other : get_or b 0 0 ≡ 10 → ⊥ = omega arith in
    as_asked (is_move b above other ∙ ap₂ move (sym c.new.ensures.adapter) (sym c.new.ensures.domain)) c.make_move.ensures
