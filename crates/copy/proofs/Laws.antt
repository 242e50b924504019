-- Bytes that fit.
-- Assumes nothing.
use Prim.Native.Nat.{ℕ, ◌+◌, ◌≤◌}
use native.Mathlib.Nat.{zero-add}
use native.Mathlib.Omega.{arith}
use mathlib.Core.List.{List, ◌++◌, append-nil}
use mathlib.Core.Path.{◌≡◌, refl, ap, ◌∙◌}
use lib.ListN.{length, drop}
use lib.Seq.{paste}
use borrow.Author.Tests.{le-leb}
use Rattle.std.proofs.lemmas.List.{drop_all}
use Rattle.std.proofs.lemmas.List.Edits.{paste_all}
use Rattle.copy.specs.Copied.{copied}

pub copied_fits : (d : List ℕ) (at : ℕ) (b : List ℕ) → at + length b ≤ length d → copied d at b ≡ paste d at b (length b)
unfolding copied
copied_fits d at b h = rw (le-leb (at + length b) (length d) h)

-- n bytes that are known
pub copied_as : (d : List ℕ) (at : ℕ) {b s : List ℕ} (n : ℕ) → b ≡ s → length s ≡ n → at + n ≤ length d → copied d at b ≡ paste d at s n
copied_as d at {b} {s} n e l h =
    ap (copied d at) e ∙ copied_fits d at s (omega arith) ∙ ap (paste d at s) l

-- bytes that fit at the start
copied_start : (d b : List ℕ) → length b ≤ length d → copied d 0 b ≡ b ++ drop (length b) d
copied_start d b h =
    copied_fits d 0 b (omega arith) ∙ paste_all d 0 b (length b) refl ∙ ap (λ (k : ℕ). b ++ drop k d) (zero-add (length b))

-- as many as there are places
pub copied_all : (d b : List ℕ) → length d ≡ length b → copied d 0 b ≡ b
copied_all d b e = copied_start d b (omega arith) ∙ ap (λ (l : List ℕ). b ++ l) (drop_all (length b) d (omega arith)) ∙ append-nil b
