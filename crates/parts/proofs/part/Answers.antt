-- `part` meets its contract.
use Rattle.std.proofs.Common.{rules, refl, ap, ◌∙◌, ◌≡◌, Option, Some, None, List, []}
use Prim.Native.Nat.{ℕ}
use lib.Dec.{eqb}
use denote.Ref.{Bor}
use Rattle.std.specs.Option.{unwrap_or, option_map}
use Rattle.std.proofs.lemmas.Option.{unwrap_or-slice_get}
use Rattle.std.proofs.lemmas.Iterator.Splits.{YieldsList-from_slice_split}
use Rattle.std.proofs.lemmas.Iterator.Consumers.{nth_from_yields_List}
use Rattle.std.specs.List.{slice_split}
use Rattle.parts.proofs.Laws.{part_at}
use Rattle.parts.proofs.part.Goals as goal

-- the bytes of what was found, or of an empty text
bytes_of : (r : Option (Bor (List ℕ))) (e : Bor (List ℕ)) → e.now ≡ [] → (unwrap_or r e).now ≡ unwrap_or (option_map (λ x. x.now) r) []
bytes_of None e h = h
bytes_of (Some x) e h = refl

pub returns : goal.returns
returns c =
    let a = c.args in
    let all = slice_split (λ b. eqb b a.c) a.s.now in
    ap (λ (x : Bor (List ℕ)). x.now) c.unwrap_or.ensures ∙ bytes_of c.nth.result _ refl
    ∙ ap (λ (o : Option (List ℕ)). unwrap_or o [])
    (nth_from_yields_List _ _ a.k c.nth.ensures.ran
    (YieldsList-from_slice_split _ (λ b. eqb b a.c) a.s.now c.split.ensures.rest c.split.ensures.done c.split.ensures.closure
    (λ x b q h. (search rules, search rules))))
    ∙ unwrap_or-slice_get all a.k [] ∙ part_at a.c a.k a.s.now
