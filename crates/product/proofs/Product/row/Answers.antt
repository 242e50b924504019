-- `row` meets its contract. The facts are searched for, so that another row fails as a fact.
use Rattle.product.proofs.Laws.{row_of, row_none}
use Rattle.product.proofs.Product.row.Goals as goal

pub returns-then-has : goal.returns-then-has
returns-then-has c = search (row_of)

pub returns-else-has : goal.returns-else-has
returns-else-has c = search (row_none)
