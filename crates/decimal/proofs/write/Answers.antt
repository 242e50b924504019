-- `write` meets its contract. The invariant: the digits from an index on are written.
use native.Mathlib.Omega.{arith}
use Rattle.decimal.proofs.Laws.{sofar_start, sofar_digit, sofar_end}
use Rattle.decimal.proofs.write.Goals as goal

pub loop-rest-init : goal.loop-rest-init
loop-rest-init c = rw c.digit.ensures (sofar_start c.args.n (omega arith))

pub loop-rest-preserved : goal.loop-rest-preserved
loop-rest-preserved c = rw c.digit-in-loop-rest.ensures (sofar_digit c.loop-rest.invariant (omega arith))

pub returns : goal.returns
returns c = sofar_end c.loop-rest.invariant (omega arith)
