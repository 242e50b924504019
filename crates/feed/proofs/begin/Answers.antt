-- `begin` meets its contract.
use Rattle.feed.proofs.Laws.{begun}
use Rattle.feed.proofs.begin.Goals as goal

pub returns : goal.returns
returns c = begun c.fresh.result c.fresh.ensures
