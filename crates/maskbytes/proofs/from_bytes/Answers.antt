-- `from_bytes` meets its contract.
use Prim.Native.Nat.{ℕ, ◌-◌, ◌*◌}
use native.Mathlib.Omega.{arith}
use mathlib.Core.Path.{◌≡◌, refl, ap, fun_ext, ◌∙◌}
use mathlib.Core.List.{[], ◌∷◌}
use lib.ListN.{get_or}
use Rattle.mask.specs.Bits.{digit, bit_at, number}
use Rattle.mask.proofs.Laws.{below_four, each_bits, past_end, number_digit}
use Rattle.maskbytes.proofs.Laws.{bytes_words}
use Rattle.maskbytes.proofs.from_bytes.Goals as goal

pub returns : goal.returns
returns c =
    let s = c in
    let b = s.args.b in
    let ws = c.word_of.result ∷ c.word_of-2.result ∷ c.word_of-3.result ∷ c.word_of-4.result ∷ [] in
    let words = below_four (λ q. get_or ws q 0 ≡ number 64 (bit_at 8 b) (q * 64)) c.word_of.ensures c.word_of-2.ensures c.word_of-3.ensures c.word_of-4.ensures in
    fun_ext
    (each_bits 64 4 ws (bit_at 8 b) (omega arith) refl
    (λ q j l h. ap (λ (x : ℕ). digit x (63 - j)) (words q l) ∙ number_digit 64 (bit_at 8 b) (q * 64) j h)
    (λ i l. past_end {w = 8} {n = 32} i (omega arith) (bytes_words b s.well_formed.0) l))
