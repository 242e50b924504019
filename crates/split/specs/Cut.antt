-- Bytes cut at a separator.
-- Assumes nothing.
use Rattle.std.specs.Prelude.{ℕ, suc, ◌+◌, Bool, false, cond, ◌||◌, List, [], ◌∷◌, ◌++◌, eqb, take, drop}

-- the first piece with some bytes before it
unfoldable pub onto : List ℕ → List (List ℕ) → List (List ℕ)
onto h [] = h ∷ []
onto h (p ∷ ps) = (h ++ p) ∷ ps

-- the pieces of s between its c; two c side by side have an empty piece between them
unfoldable pub cut : ℕ → List ℕ → List (List ℕ)
cut c [] = [] ∷ []
cut c (x ∷ xs) = cond (eqb x c) ([] ∷ cut c xs) (onto (x ∷ []) (cut c xs))

-- whether c occurs
unfoldable pub holds : ℕ → List ℕ → Bool
holds c [] = false
holds c (x ∷ xs) = eqb x c || holds c xs

-- how many bytes stand before the first c, all where there is none
unfoldable pub first_of : ℕ → List ℕ → ℕ
first_of c [] = 0
first_of c (x ∷ xs) = cond (eqb x c) 0 (suc (first_of c xs))

-- where the piece that begins at an index ends
unfoldable pub end_from : ℕ → ℕ → List ℕ → ℕ
end_from c from s = from + first_of c (drop from s)

-- the piece that begins at an index
unfoldable pub piece_from : ℕ → ℕ → List ℕ → List ℕ
piece_from c from s = take (first_of c (drop from s)) (drop from s)
