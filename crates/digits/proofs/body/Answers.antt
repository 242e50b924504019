-- `body` meets its contract: the newline is taken off, or there is none.
use Rattle.std.proofs.Common.{ap, ◌∙◌}
use Rattle.digits.proofs.Laws.{body_is}
use Rattle.digits.proofs.body.Goals as goal

pub returns : goal.returns
returns c = ap (λ r. r.now) c.unwrap_or.ensures ∙ body_is c.args.s c.strip_suffix.result c.strip_suffix.ensures.cases
