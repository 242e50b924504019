-- A number in decimal.
-- Assumes nothing.
use Rattle.std.specs.Prelude.{ℕ, zero, suc, ◌+◌, ◌/◌, ◌%◌, cond, List, [], ◌∷◌, ◌++◌, ltb}

-- the most digits of a number of 32 bits
abbrev pub most : ℕ
most = 10

-- the digits of a number below 10 ^ (k + 1), the highest one first, with no zeros in front
unfoldable pub decimal_in : ℕ → ℕ → List ℕ
decimal_in zero n = (48 + n % 10) ∷ []
decimal_in (suc k) n = cond (ltb n 10) ((48 + n % 10) ∷ []) (decimal_in k (n / 10) ++ (48 + n % 10) ∷ [])

-- a number of 32 bits in decimal
unfoldable pub decimal : ℕ → List ℕ
decimal n = decimal_in 9 n
