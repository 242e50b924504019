-- `reserved` meets its contract. The masks are searched for, so that others fail as a fact.
use Rattle.rules.specs.Queues.{reserved}
use Rattle.product.proofs.Laws.{product_of}
use Rattle.products.proofs.reserved.Goals as goal

pub returns : goal.returns
unfolding reserved
returns c = search (product_of)
