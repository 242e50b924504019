-- `take` meets its contract: what `feed` promises of every input that came before.
use Rattle.session.proofs.Laws.{passed_fed}
use Rattle.session.proofs.take.Goals as goal

pub returns-clause-passes : goal.returns-clause-passes
returns-clause-passes c = passed_fed c.feed-fed.ensures
