-- A text cut at its separators.
-- Assumes nothing.
use Rattle.std.specs.Prelude.{ℕ, zero, suc, ◌+◌, List, take, drop}
use Rattle.split.specs.Cut.{first_of}

-- what follows the first c; nothing where there is none
abbrev pub past : ℕ → List ℕ → List ℕ
past c s = drop (first_of c s + 1) s

-- part k of s, cut at each c
unfoldable pub part : ℕ → ℕ → List ℕ → List ℕ
part c zero s = take (first_of c s) s
part c (suc k) s = part c k (past c s)
