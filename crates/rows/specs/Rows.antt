-- Lists by place.
-- Assumes nothing.
use Rattle.std.specs.Prelude.{ℕ, zero, suc, List, [], ◌∷◌}

-- f k, f (k + 1), and so on, n of them
unfoldable pub row : (ℕ → ℕ) → ℕ → ℕ → List ℕ
row f k zero = []
row f k (suc n) = f k ∷ row f (suc k) n
