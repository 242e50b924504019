-- The masks of a matrix.
-- The rules: RULES.md, "Guest masks".
-- Assumes nothing.
use Rattle.std.specs.Prelude.{◌≡◌}
use Rattle.mask.specs.Bits.{bits}
use Rattle.rules.specs.declared.Masks.{Masks}
use Rattle.rules.specs.declared.Matrix.{Matrix}
use Rattle.rules.specs.State.{State, Device}
use Rattle.rules.specs.Queues.{matrix_adapters, matrix_domains, matrix_controls}

-- the masks of a device's matrix
pub record HasMasks (w : Matrix) (s : State) (v : Device) (m : Masks) : Type 0 where
  pub adapters : bits m.adapters ≡ matrix_adapters w s v
  pub domains : bits m.domains ≡ matrix_domains w s v
  pub controls : bits m.controls ≡ matrix_controls w s v
