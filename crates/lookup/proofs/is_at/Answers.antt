-- `is_at` meets its contract.
use Rattle.std.proofs.Common.{tests, arith}
use Rattle.rules.specs.Commands.{same_id}
use Rattle.lookup.proofs.is_at.Goals as goal

pub returns-then-occupied : goal.returns-then-occupied
unfolding same_id
returns-then-occupied c = grind (arith, tests)
