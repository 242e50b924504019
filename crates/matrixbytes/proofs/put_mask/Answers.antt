-- `put_mask` meets its contract: the bytes of the mask are copied.
use native.Mathlib.Omega.{arith}
use mathlib.Core.Path.{◌∙◌}
use Rattle.copy.proofs.Laws.{copied_as}
use Rattle.mask.specs.Bits.{bits}
use Rattle.matrixbytes.specs.Matrices.{mask_bytes}
use Rattle.matrixbytes.proofs.Laws.{mask_long}
use Rattle.matrixbytes.proofs.put_mask.Goals as goal

pub returns : goal.returns
unfolding mask_bytes
returns c =
    let b = c in
    let a = b.args in
    c.copy.ensures ∙ copied_as a.out.now a.at 32 b.to_bytes-b.ensures (mask_long (bits a.mask)) (omega arith)
