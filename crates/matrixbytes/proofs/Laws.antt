-- Masks that are put one after the other.
-- Assumes nothing.
use Prim.Native.Nat.{ℕ, ◌+◌}
use native.Mathlib.Omega.{arith}
use mathlib.Core.List.{List, [], ◌++◌, append-nil, append_assoc}
use mathlib.Core.Path.{◌≡◌, refl, ap, ◌∙◌}
use lib.ListN.{length, drop, length-append}
use lib.Seq.{paste, take_at, take_all, drop-drop, drop-length, drop-append-add}
use Rattle.mask.specs.Bits.{Bits}
use Rattle.mask.proofs.Laws.{numbers_words}
use Rattle.matrixbytes.specs.Matrices.{mask_bytes}

-- the bytes of a mask are 32
pub mask_long : (m : Bits) → length (mask_bytes m) ≡ 32
unfolding mask_bytes
mask_long m = (numbers_words 8 32 m 0).long

-- a paste just past a beginning
pasted : (p r b : List ℕ) (at n : ℕ) → length p ≡ at → length b ≡ n → paste (p ++ r) at b n ≡ (p ++ b) ++ drop n r
pasted p r b at n lp lb = rw (take_at p r at lp, take_all n b (omega arith), ← lp, drop-append-add p r n)

-- three pastes that fill a list
pub three_pasted : (d a b c : List ℕ) (n : ℕ) → length a ≡ n → length b ≡ n → length c ≡ n → length d ≡ n + n + n
    → paste (paste (paste d 0 a n) n b n) (n + n) c n ≡ a ++ (b ++ c)
three_pasted d a b c n la lb lc ld =
    let first : paste d 0 a n ≡ a ++ drop n d = pasted [] d a 0 n refl la in
    let second : paste (paste d 0 a n) n b n ≡ (a ++ b) ++ drop n (drop n d) =
    ap (λ (l : List ℕ). paste l n b n) first ∙ pasted a (drop n d) b n n la lb in
    let all : n + (n + n) ≡ length d = omega arith in
    let none : drop n (drop n (drop n d)) ≡ [] =
    drop-drop n n (drop n d) ∙ drop-drop (n + n) n d ∙ ap (λ (k : ℕ). drop k d) all ∙ drop-length d in
    ap (λ (l : List ℕ). paste l (n + n) c n) second
    ∙ pasted (a ++ b) (drop n (drop n d)) c (n + n) n (omega (arith, length-append a b)) lc
    ∙ ap (λ (l : List ℕ). ((a ++ b) ++ c) ++ l) none
    ∙ append-nil ((a ++ b) ++ c)
    ∙ append_assoc a b c
