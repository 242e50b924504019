-- `half_at` meets its contract.
use Rattle.std.proofs.Common.{arith}
use Rattle.fields.specs.Fields.{half_at}
use Rattle.fields.proofs.half_at.Goals as goal

pub returns-then-at-bytes : goal.returns-then-at-bytes
unfolding half_at
returns-then-at-bytes c = omega (arith, c.from_be_bytes.ensures)

pub returns : goal.returns
unfolding half_at
returns c = omega (arith, c.from_be_bytes-2.ensures)
