-- `unbind_row` meets its contract.
use mathlib.Core.Path.{sym, ◌∙◌}
use Rattle.unbind.specs.Gone.{gone}
use Rattle.product.specs.Meet.{Row}
use Rattle.mask.specs.Bits.{bits}
use Rattle.unbind.proofs.Laws.{row_gone, row_none, row_some}
use Rattle.unbind.proofs.unbind_row.Goals as goal
use Rattle.unbind.proofs.unbind_row.Goals.{After-minus-gone}

-- the domains whose queues go
goes : (c : After-minus-gone) → let a = c.args in Row (gone a.was a.is) a.adapter.0 (bits c.minus-gone.result)
goes c =
    let a = c.args in
    row_gone a.was a.is a.adapter.0 c.row.ensures c.row-2.ensures c.minus-gone.ensures

pub returns-else-any : goal.returns-else-any
returns-else-any c =
    let a = c.args in
    row_none a.drivers.now (gone a.was a.is) a.adapter.0 c.minus-gone.result (goes (goal.at.returns-else-any c).After-minus-gone) (sym c.any.ensures ∙ c.if-any.false)

pub returns-then-any : goal.returns-then-any
returns-then-any c =
    let a = c.args in
    c.unbind_domains.ensures ∙ row_some a.drivers.now (gone a.was a.is) a.adapter.0 c.minus-gone.result (goes (goal.at.returns-then-any c).After-minus-gone)
