-- `to_bytes` meets its contract.
use Rattle.std.proofs.Common.{◌≡◌, ap, ◌∙◌, arith, w64}
use Rattle.std.specs.Int.{to_be_bytes}
use Rattle.fields.specs.Fields.{id_of}
use Rattle.idbytes.proofs.Laws.{id_back, halves_put}
use Rattle.idbytes.proofs.to_bytes.Goals as goal

pub returns : goal.returns
returns c =
    let i = c.args.id in
    let h = c.copy_from_slice.new.self in
    let l = c.copy_from_slice-2.new.self in
    let high : h ≡ to_be_bytes w64 i.hi = cc in
    let low : l ≡ to_be_bytes w64 i.lo = cc in
    let b = halves_put i h l high low in
    record { bytes = b; back = ap id_of b ∙ id_back i (omega (arith, c)) (omega (arith, c)) }
