-- The prefix and the body of a text.
-- Assumes nothing.
use Rattle.std.proofs.Common.{◌≡◌, ℕ, suc, ◌+◌, ◌-◌, ◌∙◌, sym, true, false, List, [], ◌∷◌, length, get_or, take, drop, refl, arith, Option, Some, None, drop-cons, drop_of_length-le}
use Rattle.std.proofs.lemmas.Bool.Decides.{nat_tests}
use Rattle.std.specs.Option.{MatchOption, unwrap_or}
use Rattle.std.specs.Borrow.{Bor}
use lib.Dec.{eqb}
use lib.Pointwise.{pointwise}
use Rattle.digits.specs.Digits.{body, starts_hex}

-- whether the first two bytes are 0x
pub start_is : (s : List ℕ) → pointwise eqb (48 ∷ 120 ∷ []) (take 2 s) ≡ starts_hex s
unfolding starts_hex
start_is [] = refl
start_is (a ∷ []) = grind (arith, nat_tests)
start_is (a ∷ b ∷ s) = grind (arith, nat_tests)

pub prefix_is : (s : List ℕ) → pointwise eqb (take 2 s) (48 ∷ 120 ∷ []) ≡ starts_hex s
unfolding starts_hex
prefix_is [] = refl
prefix_is (a ∷ []) = grind (arith, nat_tests)
prefix_is (a ∷ b ∷ s) = grind (arith, nat_tests)

-- whether the last byte is a newline
end_is : (s : List ℕ) → pointwise eqb (drop (length s - 1) s) (10 ∷ []) ≡ eqb (get_or s (length s - 1) 0) 10
end_is [] = refl
end_is (a ∷ s) =
    let l : List ℕ = a ∷ s in
    let n : ℕ = length l - 1 in
    let none : drop (suc n) l ≡ [] = drop_of_length-le l {i = suc n} (omega arith) in
    rw (drop-cons l n 0 (omega arith), none) (grind (arith, nat_tests))

-- what is left when the last byte is taken off, or the text
pub body_is : (s : Bor (List ℕ)) (r : Option (Bor (List ℕ)))
    → MatchOption r (pointwise eqb (drop (length s.now - 1) s.now) (10 ∷ []) ≡ false)
    (λ x. (pointwise eqb (drop (length s.now - 1) s.now) (10 ∷ []) ≡ true) × (x.now ≡ take (length s.now - 1) s.now) × (length x.now + 1 ≡ length s.now))
    → (unwrap_or r s).now ≡ body s.now
unfolding body
body_is s None h = rw (sym (end_is s.now) ∙ h)
body_is s (Some x) h = rw (sym (end_is s.now) ∙ h.0) h.1
