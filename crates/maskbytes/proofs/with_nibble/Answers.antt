-- `with_nibble` meets its contract.
-- Assumes nothing.
use native.Mathlib.Omega.{arith}
use Rattle.std.proofs.Common.{ℕ, ◌≡◌, ◌-◌, ◌*◌, ◌/◌, ◌%◌, ◌^◌, ap, ◌∙◌, get_or, bit_or}
use mathlib.Core.Path.{fun_ext}
use lib.ListN.{set}
use lib.Pow.{shl_exact}
use Rattle.mask.specs.Bits.{bit_at, either}
use Rattle.mask.proofs.Laws.{mask_words_lem}
use Rattle.maskbytes.proofs.Laws.{group_set}
use Rattle.maskbytes.proofs.with_nibble.Goals as goal

pub returns : goal.returns
unfolding either
returns c =
    let x = c.args.m.words in
    let g = c.args.g in
    let v = c.args.v % 16 in
    let place : g % 16 ≡ g % 64 % 16 = omega arith in
    let same : c.from.result ≡ v = c.from.ensures in
    rw c.from-2.ensures
    (fun_ext
    (λ j. ap (λ (p : ℕ). bit_at 64 (set x (g % 64 / 16) (bit_or (get_or x (g % 64 / 16) 0) p)) j)
    (ap (λ (n : ℕ). n * 2 ^ (60 - 4 * (g % 16)) % 2 ^ 64) same ∙
    shl_exact 4 (60 - 4 * (g % 16)) 64 (omega arith) (omega arith) ∙ ap (λ (k : ℕ). v * 2 ^ (60 - 4 * k)) place)
    ∙ group_set (g % 64) v j (omega arith) x (omega (arith, (mask_words_lem c.args.m c.well_formed.0).long))))
