-- Laws of the bytes from an index on, and of the mask that they are.
-- Assumes nothing.
use Prim.Native.Nat.{ℕ, zero, suc, ◌+◌, ◌-◌, ◌*◌, ◌/◌, ◌%◌, ◌<◌, ◌≤◌, min}
use native.Mathlib.Nat.{add-zero}
use native.Mathlib.Omega.{arith}
use mathlib.Core.Path.{◌≡◌, refl, sym, ap, ap₂, ◌∙◌}
use mathlib.Core.Bool.{Bool, true, false}
use mathlib.Core.Logic.{◌⊎◌, ⊎_elim}
use mathlib.Core.List.{List, [], ◌++◌}
use lib.ListN.{length, get_or, take, drop, replicate, get_or-append, drop_of_length-le, length-append, length-drop, length-take, length-replicate}
use lib.Dec.{ltb}
use denote.Ref.{Bor}
use borrow.Author.Tests.{ltb-true, ltb-false}
use Rattle.std.proofs.Common.{Option, Some, None, MatchOption}
use Rattle.std.specs.Option.{unwrap_or}
use Rattle.std.specs.List.{between}
use Rattle.std.proofs.lemmas.Slice.{between_to_end}
use Rattle.std.proofs.lemmas.List.{get_or-append-add, get_or-drop, get_or-take, get_or-replicate, get_or_past}
use lib.Seq.{ext_get_or}
use Rattle.mask.specs.declared.Mask.{Mask}
use Rattle.mask.specs.Bits.{Sized, digit, bit_at, bits}
use Rattle.mask.proofs.Laws.{same_bits, numbers_words, numbers_bits}
use Rattle.fields.specs.Fields.{bytes_at, mask_of}

-- the bytes from an index on: how many
bytes_long : (b : List ℕ) (k n : ℕ) → length (bytes_at b k n) ≡ n
unfolding bytes_at
bytes_long b k zero = refl
bytes_long b k (suc n) = ap suc (bytes_long b (suc k) n)

-- and each of them
bytes_at_lem : (b : List ℕ) (k n j : ℕ) → j < n → get_or (bytes_at b k n) j 0 ≡ get_or b (k + j) 0
unfolding bytes_at
bytes_at_lem b k zero j h = absurd (omega arith)
bytes_at_lem b k (suc n) zero h = ap (λ (i : ℕ). get_or b i 0) (sym (add-zero k))
bytes_at_lem b k (suc n) (suc j) h =
    let next : suc k + j ≡ k + suc j = omega arith in
    bytes_at_lem b (suc k) n j (omega arith) ∙ ap (λ (i : ℕ). get_or b i 0) next

-- a list with the right bytes is the bytes from the index on
same_bytes : (b xs : List ℕ) (k n : ℕ) → length xs ≡ n → ((j : ℕ) → j < n → get_or xs j 0 ≡ get_or b (k + j) 0) → xs ≡ bytes_at b k n
same_bytes b xs k n l h =
    ext_get_or 0 xs (bytes_at b k n) (l ∙ sym (bytes_long b k n)) (λ j hj. h j (omega arith) ∙ sym (bytes_at_lem b k n j (omega arith)))

-- the part from an index on, where there is one
pub part_there : (b : List ℕ) (k : ℕ) (o : Option (Bor (List ℕ))) (e : Bor (List ℕ)) → e.now ≡ []
    → MatchOption o ((length b < k) ⊎ (length b < length b))
    (λ x. (k ≤ length b) × (length b ≤ length b) × (x.now ≡ between k (length b) b) × (length x.now + k ≡ length b))
    → (unwrap_or o e).now ≡ drop k b
part_there b k None e empty h =
    let past : length b ≤ k = ⊎_elim (λ l. omega arith) (λ l. omega arith) h in
    empty ∙ sym (drop_of_length-le b past)
part_there b k (Some x) e empty h = h.2 ∙ between_to_end b k (length b) (omega arith)

-- what is there, and zeros behind it, are the bytes from the index on
pub copied_bytes : (b there ys : List ℕ) (k n m : ℕ) → there ≡ drop k b → n ≡ min (length there) m → ys ≡ take n there
    → ys ++ drop n (replicate m 0) ≡ bytes_at b k m
copied_bytes b there ys k n m t e y = same_bytes b (ys ++ drop n (replicate m 0)) k m long at
  where
    left : length there ≡ length b - k
    left = ap length t ∙ length-drop k b

    whole : length ys ≡ n
    whole = ap length y ∙ length-take n there ∙ omega arith

    long : length (ys ++ drop n (replicate m 0)) ≡ m
    long = omega (arith, length-append ys (drop n (replicate m 0)), length-drop n (replicate {A = ℕ} m 0), length-replicate {A = ℕ} m 0, whole, e)

    at : (j : ℕ) → j < m → get_or (ys ++ drop n (replicate m 0)) j 0 ≡ get_or b (k + j) 0
    at j h = go (ltb j n) refl
      where
        go : (t : Bool) → ltb j n ≡ t → get_or (ys ++ drop n (replicate m 0)) j 0 ≡ get_or b (k + j) 0
        go true q =
            let l : j < n = ltb-true j n q in
            get_or-append ys (drop n (replicate m 0)) 0 j (omega (arith, whole)) ∙ ap (λ (xs : List ℕ). get_or xs j 0) y
            ∙ get_or-take n there j 0 l ∙ ap (λ (xs : List ℕ). get_or xs j 0) t ∙ get_or-drop k b j 0
        go false q =
            let l : n ≤ j = ltb-false j n q in
            let place : j ≡ length ys + (j - n) = omega (arith, whole) in
            ap (λ (i : ℕ). get_or (ys ++ drop n (replicate m 0)) i 0) place
            ∙ get_or-append-add ys (drop n (replicate m 0)) (j - n) 0 ∙ get_or-drop n (replicate m 0) (j - n) 0
            ∙ get_or-replicate m (n + (j - n)) 0 0 (omega arith) ∙ sym (get_or_past b (k + j) 0 (omega (arith, left, e)))

-- a bit of the 32 bytes from an index on
bit_from : (b : List ℕ) (k i : ℕ) → i < 256 → bit_at 8 (bytes_at b k 32) i ≡ bit_at 8 b (k * 8 + i)
unfolding bit_at
bit_from b k i l =
    let byte : k + i / 8 ≡ (k * 8 + i) / 8 = omega arith in
    let slot : i % 8 ≡ (k * 8 + i) % 8 = omega arith in
    ap₂ (λ (x p : ℕ). digit x (7 - p)) (bytes_at_lem b k 32 (i / 8) (omega arith) ∙ ap (λ (q : ℕ). get_or b q 0) byte) slot

-- a mask with the bits of the 32 bytes from an index on is the mask there
pub same_mask : (b xs : List ℕ) (k : ℕ) (m : Mask) → Sized 64 4 m.words → xs ≡ bytes_at b k 32 → bits m ≡ bit_at 8 xs → m ≡ mask_of b k
unfolding mask_of
same_mask b xs k m w h e =
    ap (λ (ws : List ℕ). record { words = ws })
    (same_bits {xs = m.words} (omega arith) w (numbers_words 64 4 (bit_at 8 b) (k * 8))
    (λ i l. ap (λ (f : ℕ → Bool). f i) (e ∙ ap (bit_at 8) h) ∙ bit_from b k i l ∙ sym (numbers_bits 64 4 (bit_at 8 b) (k * 8) i (omega arith) l)))
