-- `item` meets its contract: the sign, then the number.
use Rattle.std.proofs.Common.{arith}
use Rattle.std.proofs.lemmas.Grind.{common_steps}
use Rattle.errno.specs.Outcome.{outcome as number_outcome}
use Rattle.number.proofs.Laws.{rule_le}
use Rattle.masktext.specs.Text.{outcome, item, signed}
use Rattle.masktext.proofs.item.Goals as goal

pub returns-in_err-sign : goal.returns-in_err-sign
unfolding outcome item
returns-in_err-sign c = grind (arith, common_steps)

pub returns-in_err-n : goal.returns-in_err-n
unfolding number_outcome outcome item signed
returns-in_err-n c = grind (arith, common_steps)

pub overflow_cast-n : goal.overflow_cast-n
unfolding number_outcome
overflow_cast-n c = grind (arith, common_steps, rule_le)

pub returns-in-43 : goal.returns-in-43
unfolding number_outcome outcome item signed
returns-in-43 c = grind (arith, common_steps)

pub returns-in-45 : goal.returns-in-45
unfolding number_outcome outcome item signed
returns-in-45 c = grind (arith, common_steps)

pub returns-in_default : goal.returns-in_default
unfolding number_outcome outcome item signed
returns-in_default c = grind (arith, common_steps)
