-- The parts of a text as a split gives them.
-- Assumes nothing.
use Prim.Native.Nat.{ℕ, zero, suc, ◌+◌}
use native.Mathlib.Omega.{arith}
use mathlib.Core.Bool.{Bool, true, false, cond}
use mathlib.Core.List.{List, [], ◌∷◌}
use mathlib.Core.Path.{◌≡◌, refl, sym, ap, ◌∙◌}
use lib.Dec.{eqb}
use lib.ListN.{get_or, take, drop}
use Rattle.std.specs.List.{slice_split, onto_first}
use Rattle.split.specs.Cut.{first_of}
use Rattle.parts.specs.Parts.{part}

-- an empty text has only empty parts
part_none : (c k : ℕ) → [] ≡ part c k []
unfolding part first_of
part_none c zero = refl
part_none c (suc k) = part_none c k

-- a first byte goes onto the first part
onto_here : (x : ℕ) (ps : List (List ℕ)) → get_or (onto_first x ps) 0 [] ≡ x ∷ get_or ps 0 []
onto_here x [] = refl
onto_here x (p ∷ ps) = refl

onto_later : (x k : ℕ) (ps : List (List ℕ)) → get_or (onto_first x ps) (suc k) [] ≡ get_or ps (suc k) []
onto_later x k [] = refl
onto_later x k (p ∷ ps) = refl

-- part k stands at k
pub part_at : (c k : ℕ) (s : List ℕ) → get_or (slice_split (λ b. eqb b c) s) k [] ≡ part c k s
unfolding part first_of
part_at c zero [] = refl
part_at c (suc k) [] = part_none c k
part_at c k (x ∷ xs) = go k (eqb x c) (λ j. part_at c j xs) refl
  where
    parts : List (List ℕ)
    parts = slice_split (λ b. eqb b c) xs

    go : (j : ℕ) (b : Bool) → ((i : ℕ) → get_or parts i [] ≡ part c i xs) → eqb x c ≡ b → get_or (cond b ([] ∷ parts) (onto_first x parts)) j [] ≡ part c j (x ∷ xs)
    go zero true rest e = ap (λ (b : Bool). take (cond b 0 (suc (first_of c xs))) (x ∷ xs)) (sym e)
    go (suc j) true rest e = rest j ∙ ap (λ (b : Bool). part c j (drop (cond b 0 (suc (first_of c xs)) + 1) (x ∷ xs))) (sym e)
    go zero false rest e =
        onto_here x parts ∙ ap (λ (l : List ℕ). x ∷ l) (rest 0) ∙ ap (λ (b : Bool). take (cond b 0 (suc (first_of c xs))) (x ∷ xs)) (sym e)
    go (suc j) false rest e =
        let next : suc (first_of c xs + 1) ≡ suc (first_of c xs) + 1 = omega arith in
        onto_later x j parts ∙ rest (suc j) ∙ ap (λ (n : ℕ). part c j (drop n (x ∷ xs))) next
        ∙ ap (λ (b : Bool). part c j (drop (cond b 0 (suc (first_of c xs)) + 1) (x ∷ xs))) (sym e)
