-- `to_bytes` meets its contract.
use Rattle.std.proofs.Common.{arith, refl, ◌≡◌, ◌+◌, ◌-◌, ◌*◌, length}
use Rattle.std.proofs.lemmas.Grind.{common_steps}
use Rattle.std.proofs.lemmas.Slice.{take-put_mid}
use Rattle.mask.specs.Bits.{bits, numbers}
use Rattle.maskbytes.proofs.Laws.{word_bytes, words_more}
use Rattle.maskbytes.proofs.to_bytes.Goals as goal

pub loop-q-init : goal.loop-q-init
unfolding numbers
loop-q-init c = record { long = refl; done = refl }

pub loop-q-preserved : goal.loop-q-preserved
loop-q-preserved c =
    let q = c.loop-q.q in
    let ys = c.copy_from_slice.new.self in
    let written : ys ≡ numbers 8 8 (bits c.args.m) (q * 64) = cc (word_bytes q c.args.m.words) in
    let long : length ys ≡ 8 = grind (arith, common_steps) in
    let more = words_more q (bits c.args.m) in
    let put = take-put_mid (8 * q) (8 * q + 8 - 8 * q) c.loop-q.out ys (8 * (q + 1)) (omega arith) (omega arith) in
    record { long = grind (arith, common_steps); done = cc }
