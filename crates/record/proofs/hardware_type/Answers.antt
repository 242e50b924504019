-- `hardware_type` meets its contract.
use Rattle.std.proofs.Common.{arith}
use borrow.Author.Tests.{lt-ltb}
use Rattle.layout.specs.Layout.{config_in}
use Rattle.record.proofs.hardware_type.Goals as goal

pub returns : goal.returns
unfolding config_in
returns c = simp (c.from.ensures, lt-ltb c.args.adapter.0 256 (omega arith))
