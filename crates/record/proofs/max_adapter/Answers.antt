-- `max_adapter` meets its contract.
use Rattle.layout.specs.Layout.{limits_in}
use Rattle.record.proofs.max_adapter.Goals as goal

pub returns : goal.returns
unfolding limits_in
returns c = c.limit.ensures
