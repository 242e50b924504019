-- `lines` meets its contract: as many lines as adapters times domains.
use Prim.Native.Nat.{◌*◌, ◌≤◌}
use native.Mathlib.Omega.{arith}
use native.Mathlib.Nat.{mul-le-mul}
use mathlib.Core.Path.{ap₂, sym, ◌∙◌}
use Rattle.mask.specs.Bits.{bits}
use Rattle.mask.proofs.Laws.{count_le}
use Rattle.listing.proofs.Laws.{matrix_lines}
use Rattle.listing.proofs.lines.Goals as goal

pub overflow_mul-result : goal.overflow_mul-result
overflow_mul-result c =
    let a = c.args.masks in
    let adapters : c.count.result ≤ 256 = omega (arith, c.count.ensures, count_le 256 (bits a.adapters)) in
    let domains : c.count-2.result ≤ 256 = omega (arith, c.count-2.ensures, count_le 256 (bits a.domains)) in
    omega (arith, mul-le-mul adapters domains)

pub returns : goal.returns
returns c =
    let a = c.args.masks in
    ap₂ ◌*◌ c.count.ensures c.count-2.ensures ∙ sym (matrix_lines (bits a.adapters) (bits a.domains))
