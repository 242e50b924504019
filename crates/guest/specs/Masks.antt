-- What a guest is shown: the contracts of the masks.
-- The rules: RULES.md, "Guest masks".
-- Assumes nothing.
use Rattle.std.specs.Prelude.{cond, ◌≡◌, ltb, Result, IfOk}
use Rattle.errno.specs.Errno.{number_of}
use Rattle.errno.specs.declared.Errno.{Errno}
use Rattle.errno.specs.declared.Errno.TheVariants.{Enoent}
use Rattle.mask.specs.Bits.{Bits}
use Rattle.rules.specs.declared.Id.{Id}
use Rattle.rules.specs.declared.Masks.{Masks}
use Rattle.rules.specs.declared.Matrix.{Matrix}
use Rattle.rules.specs.State.{State, slots}
use Rattle.rules.specs.Queues.{usable}
use Rattle.rules.specs.Commands.{answered, slot_of}
use Rattle.layout.specs.Lent.{device_with}
use Rattle.matrix.specs.HasMasks.{HasMasks}

-- the answer for an id, with the masks of its device
pub record Shows (s : State) (i : Id) (w : Matrix) (r : Result Masks Errno) : Type 0 where
  pub answer : answered r ≡ cond (ltb (slot_of i s.device) slots) 0 (number_of Enoent)
  pub masks : IfOk r (λ m. HasMasks w s (device_with i s.device) m)

-- the queues that the guest of the device with an id can use
abbrev pub usable_with : Id → State → Bits
usable_with i s = usable s (device_with i s.device)
