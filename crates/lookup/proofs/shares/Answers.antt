-- `shares` meets its contract. The product is searched for, so that another fails as a fact.
use Rattle.std.proofs.Common.{rules}
use Rattle.product.proofs.Laws.{meet_test}
use Rattle.lookup.proofs.shares.Goals as goal

pub returns : goal.returns
returns c = meet_test c.meets.ensures (search rules)
