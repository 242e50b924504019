-- `kind_of` meets its contract.
use Rattle.std.proofs.lemmas.Bool.Decides.{nat_tests}
use Rattle.std.proofs.Common.{arith}
use Rattle.fields.specs.Fields.{kind_of}
use Rattle.fields.proofs.kind_of.Goals as goal

pub returns-in-0 : goal.returns-in-0
unfolding kind_of
returns-in-0 c = grind (arith, nat_tests)

pub returns-in-1 : goal.returns-in-1
unfolding kind_of
returns-in-1 c = grind (arith, nat_tests)

pub returns-in_default : goal.returns-in_default
unfolding kind_of
returns-in_default c = grind (arith, nat_tests)
