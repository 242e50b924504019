-- A flag as a number.
-- Assumes nothing.
use Rattle.std.proofs.Common.{Bool, true, false, ◌≡◌, refl}
use mir.Val.{bool_byte}
use Rattle.shown.specs.Shown.{bit}

-- what `u8::from` makes of a flag
pub flag_is : (b : Bool) → bool_byte b ≡ bit b
unfolding bit
flag_is true = refl
flag_is false = refl
