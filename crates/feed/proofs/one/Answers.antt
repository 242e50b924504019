-- `one` meets its contract.
use Rattle.feed.proofs.Laws.{one_put}
use Rattle.feed.proofs.one.Goals as goal

pub returns : goal.returns
returns c = one_put c.obey_piece-said.result c.obey_piece-said.ensures c.put.ensures c.requires
