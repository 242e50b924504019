-- `assigned` meets its contract: a device has the product of its masks, an empty slot has no queue.
use Rattle.rules.specs.Commands.{numbers_of}
use Rattle.products.proofs.Laws.{of_device, of_none}
use Rattle.products.proofs.assigned.Goals as goal

-- the facts are searched for, so that another test or other masks fail as a fact
pub returns-then-present : goal.returns-then-present
unfolding numbers_of
returns-then-present c = search (of_device)

pub returns-else-present : goal.returns-else-present
returns-else-present c = search (of_none)
