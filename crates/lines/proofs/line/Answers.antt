-- `line` meets its contract: its four hex digits are those of the two numbers.
use Prim.Native.Nat.{◌+◌, ◌*◌, ◌/◌, ◌%◌}
use native.Mathlib.Omega.{arith}
use mathlib.Core.Path.{◌≡◌}
use Rattle.lines.specs.Lines.{line_of}
use Rattle.lines.proofs.line.Goals as goal

pub returns : goal.returns
unfolding line_of
returns c =
    let a = c.args.queue.adapter.0 in
    let d = c.args.queue.domain.0 in
    let high : (a * 256 + d) / 256 ≡ a = omega arith in
    let low : (a * 256 + d) % 256 ≡ d = omega arith in
    let e : a / 16 % 16 ≡ a / 16 = omega arith in
    let f : d / 16 % 16 ≡ d / 16 = omega arith in
    rw (c.hex_digit-4.ensures, c.hex_digit-3.ensures, c.hex_digit-2.ensures, c.hex_digit.ensures, high, low, e, f)
