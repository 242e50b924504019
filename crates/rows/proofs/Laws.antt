-- When a list is a row.
-- Assumes nothing.
use Prim.Native.Nat.{ℕ, zero, suc, ◌+◌, ◌<◌}
use native.Mathlib.Nat.{add-zero}
use native.Mathlib.Omega.{arith}
use mathlib.Core.List.{List}
use mathlib.Core.Path.{◌≡◌, refl, sym, ap, ◌∙◌}
use lib.ListN.{length, get_or}
use lib.Seq.{ext_get_or}
use Rattle.rows.specs.Rows.{row}

-- how long it is
pub row_long : (f : ℕ → ℕ) (k n : ℕ) → length (row f k n) ≡ n
unfolding row
row_long f k zero = refl
row_long f k (suc n) = ap suc (row_long f (suc k) n)

-- what stands at a place
pub row_at : (f : ℕ → ℕ) (k n j : ℕ) → j < n → get_or (row f k n) j 0 ≡ f (k + j)
unfolding row
row_at f k zero j h = absurd (omega arith)
row_at f k (suc n) zero h = ap f (sym (add-zero k))
row_at f k (suc n) (suc j) h =
    let next : suc k + j ≡ k + suc j = omega arith in
    row_at f (suc k) n j (omega arith) ∙ ap f next
