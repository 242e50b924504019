-- `put_masks` meets its contract: three pastes fill the 96 bytes.
use Prim.Native.Nat.{ℕ}
use native.Mathlib.Omega.{arith}
use mathlib.Core.List.{List}
use mathlib.Core.Path.{◌≡◌, ap, ◌∙◌}
use lib.ListN.{length}
use lib.Seq.{paste}
use Rattle.mask.specs.Bits.{bits}
use Rattle.matrixbytes.specs.Matrices.{mask_bytes}
use Rattle.matrixbytes.proofs.Laws.{mask_long, three_pasted}
use Rattle.matrixbytes.proofs.put_masks.Goals as goal

pub returns : goal.returns
returns c =
    let a = c.args in
    let adapters = mask_bytes (bits a.masks.adapters) in
    let domains = mask_bytes (bits a.masks.domains) in
    let controls = mask_bytes (bits a.masks.controls) in
    let long : length a.out.now ≡ 96 = omega arith in
    let first = c.put_mask.ensures in
    let second = c.put_mask-2.ensures ∙ ap (λ (l : List ℕ). paste l 32 domains 32) first in
    c.put_mask-3.ensures
    ∙ ap (λ (l : List ℕ). paste l 64 controls 32) second
    ∙ three_pasted a.out.now adapters domains controls 32 (mask_long _) (mask_long _) (mask_long _) long
