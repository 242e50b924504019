-- `word_at` meets its contract.
use Rattle.std.proofs.Common.{arith}
use Rattle.fields.specs.Fields.{word_at}
use Rattle.fields.proofs.word_at.Goals as goal

pub returns : goal.returns
unfolding word_at
returns c = omega arith
