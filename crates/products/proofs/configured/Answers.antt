-- `configured` meets its contract. The masks are searched for, so that others fail as a fact.
use Rattle.rules.specs.Queues.{configured}
use Rattle.product.proofs.Laws.{product_of}
use Rattle.products.proofs.configured.Goals as goal

pub returns : goal.returns
unfolding configured
returns c = search (product_of)
