-- Four words that are put at once, the parts of a slot that is given or emptied, a flag as a number.
-- Assumes nothing.
use Rattle.std.proofs.Common.{◌≡◌, ℕ, zero, suc, ◌+◌, ◌<◌, refl, sym, ap, ◌∙◌, arith, add-zero, Bool, true, false, cond, List, [], ◌∷◌, length, get_or, set}
use borrow.Rule.Slice.PartMut.{put_mid}
use mir.Val.{bool_byte}
use Rattle.rules.specs.declared.Kind.{Kind}
use Rattle.rules.specs.State.{slots}
use Rattle.layout.specs.Layout.{device_at, kind_at, put_four, put_numbers, zeros}
use Rattle.layout.proofs.Laws.{cond_below, four_of}

four_written : (ws : List ℕ) (k a b c d : ℕ) → suc (suc (suc k)) < length ws
    → put_mid k 4 ws (a ∷ b ∷ c ∷ d ∷ []) ≡ set (set (set (set ws k a) (suc k) b) (suc (suc k)) c) (suc (suc (suc k))) d
four_written [] k a b c d h = absurd (omega arith)
four_written (w ∷ []) zero a b c d h = absurd (omega arith)
four_written (w ∷ x ∷ []) zero a b c d h = absurd (omega arith)
four_written (w ∷ x ∷ y ∷ []) zero a b c d h = absurd (omega arith)
four_written (w ∷ x ∷ y ∷ z ∷ ws) zero a b c d h = refl
four_written (w ∷ ws) (suc k) a b c d h = ap (λ (l : List ℕ). w ∷ l) (four_written ws k a b c d (omega arith))

-- four words are put one by one, or at once
pub four_put : (ws : List ℕ) (k n : ℕ) (ys m : List ℕ) → k + 3 < length ws → n ≡ 4 → ys ≡ m → length m ≡ 4 → put_mid k n ws ys ≡ put_four ws k m
unfolding put_four
four_put ws k n ys m h e p l =
    let i₁ : k + 1 ≡ suc k = omega arith in
    let i₂ : k + 2 ≡ suc (suc k) = omega arith in
    let i₃ : k + 3 ≡ suc (suc (suc k)) = omega arith in
    rw (e, p, i₁, i₂, i₃)
    (ap (put_mid k 4 ws) (sym (four_of m l)) ∙ four_written ws k (get_or m 0 0) (get_or m 1 0) (get_or m 2 0) (get_or m 3 0) (omega arith))

-- the first four words of a slot are put one by one
pub head_put : (ws : List ℕ) (k p x y a b : ℕ) → k ≡ p → x ≡ y
    → set (set (set (set ws (k + 0) x) (k + 1) 0) (k + 2) a) (k + 3) b ≡ put_four ws p (y ∷ 0 ∷ a ∷ b ∷ [])
unfolding put_four
head_put ws k p x y a b h e = rw (h, e, add-zero p) refl

-- nothing is assigned of a kind to the device at a slot
pub none_put : (ws : List ℕ) (p : ℕ) (k : Kind) (m : List ℕ) → p < slots → m ≡ zeros → put_numbers ws p k m ≡ put_four ws (device_at p + kind_at k) zeros
unfolding put_numbers
none_put ws p k m h e = cond_below p slots _ ws h ∙ ap (put_four ws (device_at p + kind_at k)) e

pub flag_byte : (b : Bool) → bool_byte b ≡ cond b 1 0
flag_byte true = refl
flag_byte false = refl
