-- `has` meets its contract. The facts are searched for, so that another test fails as a fact.
use Rattle.product.proofs.Laws.{has_both, has_not}
use Rattle.product.proofs.Product.has.Goals as goal

pub returns-then-has : goal.returns-then-has
returns-then-has c = search (has_both)

pub returns-else-has : goal.returns-else-has
returns-else-has c = search (has_not)
