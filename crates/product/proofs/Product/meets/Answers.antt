-- `meets` meets its contract. The facts are searched for, so that another test fails as a fact.
use Rattle.product.proofs.Laws.{meet_both, meet_not}
use Rattle.product.proofs.Product.meets.Goals as goal

pub returns-then-meets : goal.returns-then-meets
returns-then-meets c = search (meet_both)

pub returns-else-meets : goal.returns-else-meets
returns-else-meets c = search (meet_not)
