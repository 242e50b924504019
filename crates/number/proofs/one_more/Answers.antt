-- `one_more` meets its contract. The text is bad where the byte is no digit of the base.
use Rattle.std.proofs.Common.{arith}
use Rattle.std.proofs.lemmas.Grind.{common_steps}
use Rattle.errno.specs.Outcome.{outcome}
use Rattle.errno.proofs.Outcomes.{passed}
use Rattle.digits.specs.Digits.{digit_found}
use Rattle.number.specs.Text.{at_most}
use Rattle.number.proofs.one_more.Goals as goal

pub returns-in_err-d : goal.returns-in_err-d
unfolding digit_found
returns-in_err-d c = rw (passed _ _ c.from_residual.ensures.1) (grind (arith, common_steps))

pub returns-then-from-next : goal.returns-then-from-next
unfolding outcome digit_found at_most
returns-then-from-next c = grind (arith, common_steps)

pub returns : goal.returns
unfolding outcome digit_found at_most
returns c = grind (arith, common_steps)
