-- `reserved` meets its contract: what the host reserves is a product too. The product is searched for, so that another fails as a fact.
use Rattle.std.proofs.Common.{rules}
use Rattle.product.proofs.Laws.{meet_test}
use Rattle.admit.proofs.reserved.Goals as goal

pub returns : goal.returns
returns c = meet_test c.meets.ensures (search rules)
