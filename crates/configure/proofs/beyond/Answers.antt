-- `beyond` meets its contract.
use native.Mathlib.Omega.{arith}
use Rattle.std.proofs.lemmas.Bool.Decides.{nat_tests}
use Rattle.rules.specs.Commands.{beyond_limits}
use Rattle.configure.proofs.beyond.Goals as goal

pub returns-then-exceeds-2 : goal.returns-then-exceeds-2
unfolding beyond_limits
returns-then-exceeds-2 c = grind (arith, nat_tests)

pub returns-else-exceeds-2 : goal.returns-else-exceeds-2
unfolding beyond_limits
returns-else-exceeds-2 c = grind (arith, nat_tests)
