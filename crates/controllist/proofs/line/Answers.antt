-- `line` meets its contract: its two hex digits are those of the number.
use Prim.Native.Nat.{◌/◌, ◌%◌}
use native.Mathlib.Omega.{arith}
use mathlib.Core.Path.{◌≡◌}
use Rattle.controllist.specs.Controls.{domain_line}
use Rattle.controllist.proofs.line.Goals as goal

pub returns : goal.returns
unfolding domain_line
returns c =
    let d = c.args.domain in
    let a : d / 16 % 16 ≡ d / 16 = omega arith in
    rw (c.hex_digit-low.ensures, c.hex_digit-high.ensures, a)
