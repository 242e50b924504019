-- A driver as a number.
-- The rules: RULES.md, "Target".
-- Assumes nothing.
use Rattle.std.specs.Prelude.{ℕ}
use Rattle.rules.specs.declared.Driver.{Driver}
use Rattle.rules.specs.declared.Driver.TheVariants.{Unbound, Host, Passthrough}

-- the number of each driver
abbrev pub driver_number : Driver → ℕ
driver_number Unbound = 0
driver_number Host = 1
driver_number Passthrough = 2
