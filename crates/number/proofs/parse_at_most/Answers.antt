-- `parse_at_most` meets its contract: the prefix gives the base.
use Rattle.std.proofs.Common.{arith}
use Rattle.std.proofs.lemmas.Grind.{common_steps}
use Rattle.errno.specs.Outcome.{outcome}
use Rattle.digits.proofs.Laws.{prefix_is}
use Rattle.number.specs.Text.{any_base, number_rule}
use Rattle.number.proofs.parse_at_most.Goals as goal

pub returns-then-s-gt16 : goal.returns-then-s-gt16
unfolding outcome number_rule
returns-then-s-gt16 c = grind (arith, common_steps)

pub returns-in-Some : goal.returns-in-Some
unfolding any_base number_rule
returns-in-Some c = grind (arith, common_steps, prefix_is)

pub returns-then-eq : goal.returns-then-eq
unfolding any_base number_rule
returns-then-eq c = grind (arith, common_steps, prefix_is)

pub returns : goal.returns
unfolding any_base number_rule
returns c = grind (arith, common_steps, prefix_is)
