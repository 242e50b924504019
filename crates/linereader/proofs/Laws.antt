-- The words from a place on, one by one.
-- Assumes nothing.
use Prim.Native.Nat.{ℕ, ◌+◌, ◌≤◌, ◌<◌}
use native.Mathlib.Omega.{arith}
use mathlib.Core.Bool.{Bool, true, false, cond}
use mathlib.Core.List.{List, [], ◌∷◌}
use mathlib.Core.Path.{◌≡◌, refl, sym, ap, ◌∙◌}
use mathlib.Core.Logic.{◌⊎◌, inl, inr}
use lib.Dec.{leb}
use lib.ListN.{length, drop}
use borrow.Author.Tests.{le-leb, lt-leb}
use Rattle.std.proofs.lemmas.Bool.Decides.{leb_tells}
use Rattle.split.specs.Cut.{cut, end_from, piece_from}
use Rattle.split.proofs.Laws.{cut_next, cut_end, piece_end}
use Rattle.linereader.specs.Words.{words_from}

-- within the line, and past it
pub from_within : (at : ℕ) (s : List ℕ) → at ≤ length s → words_from at s ≡ cut 32 (drop at s)
unfolding words_from
from_within at s h = rw (le-leb at (length s) h)

pub from_past : (at : ℕ) (s : List ℕ) → length s < at → words_from at s ≡ []
unfolding words_from
from_past at s h = rw (lt-leb at (length s) h)

-- a word, and those after it
pub word_taken : (at : ℕ) (s w : List ℕ) (next : ℕ) → at ≤ length s → w ≡ piece_from 32 at s → next ≡ at + length w + 1
    → words_from at s ≡ w ∷ words_from next s
word_taken at s w next h e n = go (leb_tells next (length s))
  where
    ends : (at + length w ≡ end_from 32 at s) × (at + length w ≤ length s)
    ends = piece_end 32 at s e h

    go : ((leb next (length s) ≡ true) × (next ≤ length s)) ⊎ ((leb next (length s) ≡ false) × (length s < next)) → words_from at s ≡ w ∷ words_from next s
    go (inl l) =
        from_within at s h ∙ cut_next 32 at s ends.0 h (omega (arith, l.1))
        ∙ (λ i. sym e i ∷ cut 32 (drop (sym n i) s)) ∙ ap (λ ws. w ∷ ws) (sym (from_within next s l.1))
    go (inr l) =
        from_within at s h ∙ (cut_end 32 at s ends.0 h (omega (arith, l.1))).0
        ∙ (λ i. sym e i ∷ []) ∙ ap (λ ws. w ∷ ws) (sym (from_past next s l.1))

-- from the start on, all
pub from_start : (at : ℕ) (s : List ℕ) → at ≡ 0 → words_from at s ≡ cut 32 s
from_start at s e = from_within at s (omega arith) ∙ ap (λ i. cut 32 (drop i s)) e

-- none, or all that the line has from there on
pub from_tells : (at : ℕ) (s : List ℕ) → (words_from at s ≡ []) ⊎ (words_from at s ≡ cut 32 (drop at s))
unfolding words_from
from_tells at s = go (leb at (length s))
  where
    go : (b : Bool) → (cond b (cut 32 (drop at s)) [] ≡ []) ⊎ (cond b (cut 32 (drop at s)) [] ≡ cut 32 (drop at s))
    go true = inr refl
    go false = inl refl
