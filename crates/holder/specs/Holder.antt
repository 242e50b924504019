-- Which device has a queue.
-- The rules: RULES.md, "Commands".
-- Assumes nothing.
use Rattle.std.specs.Prelude.{ℕ}
use Rattle.rules.specs.State.{Devices, slots}
use Rattle.rules.specs.Commands.{first_from, product}

-- the slot of the device whose matrix has queue q, configured or not, open or not: the first of two; `slots` where none has it
unfoldable pub holder_of : Devices → ℕ → ℕ
holder_of vs q = first_from slots 0 (λ p. product (vs p) q)
