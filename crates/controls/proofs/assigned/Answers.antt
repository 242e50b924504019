-- `assigned` meets its contract.
use Rattle.mask.specs.Bits.{either}
use Rattle.rules.specs.Commands.{numbers_of}
use Rattle.controls.proofs.Laws.{made}
use Rattle.controls.proofs.assigned.Goals as goal

pub returns : goal.returns
unfolding numbers_of
returns c = search (made either)
