-- `byte` meets its contract: the number of the text, where it is a byte.
use mathlib.Core.Path.{ap, ◌∙◌}
use Rattle.errno.specs.Outcome.{outcome}
use Rattle.errno.proofs.Outcomes.{passed}
use Rattle.number.specs.Text.{at_most}
use Rattle.wordtext.specs.Words.{byte_text}
use Rattle.wordtext.proofs.Laws.{byte_is}
use Rattle.wordtext.proofs.byte.Goals as goal

pub returns-in_err-n : goal.returns-in_err-n
unfolding outcome byte_text at_most
returns-in_err-n c = passed _ _ c.from_residual.ensures.1 ∙ ap (at_most 255) c.in_err-n.ensures

pub returns : goal.returns
unfolding byte_text outcome
returns c = ap outcome c.or.ensures ∙ byte_is _ _ c.try_from.ensures ∙ ap (at_most 255) c.in_ok-n.ensures
