use Rattle.std.proofs.Common.{◌∙◌}
use Rattle.digits.proofs.Laws.{start_is}
use Rattle.digits.proofs.starts_hex.Goals as goal

pub returns : goal.returns
returns c = c.starts_with.ensures.value ∙ start_is c.args.s.now
