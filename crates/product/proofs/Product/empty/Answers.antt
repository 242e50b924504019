-- `empty` meets its contract. The masks are searched for, so that others fail as a fact.
use Rattle.product.proofs.Laws.{product_none}
use Rattle.product.proofs.Product.empty.Goals as goal

pub returns : goal.returns
returns c = search (product_none)
