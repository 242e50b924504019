-- Names that are written.
-- Assumes nothing.
use Rattle.std.proofs.Common.{◌≡◌, ℕ, ◌-◌, ◌≤◌, ◌<◌, min, List, length, take, replicate, get_or, refl, sym, ap, ◌∙◌, arith, Some, Bool, true, false, ltb-true, ltb-false}
use lib.Dec.{ltb}
use lib.ListN.{length-append, length-replicate}
use lib.Seq.{take_all}
use Rattle.std.proofs.lemmas.List.{length-take, get_or-take, get_or-replicate, get_or_append_left, get_or-append_right, get_or_past}
use Rattle.errno.specs.declared.Errno.{Errno}
use Rattle.errno.specs.Errno.{name_of, padded}
use Rattle.errno.specs.Ascii.{ascii}
use Rattle.names.specs.Names.{CaseBy, NamedBy}

-- the name of the case that has the value
pub named : {A : Type 0} {number_of : A → ℕ} {name_of : A → List ℕ} (e : A) {value r : ℕ} {s before after : List ℕ} → CaseBy number_of value (Some e) → length (name_of e) ≤ 14
    → s ≡ name_of e → (r ≡ min (length s) 14) × (after ≡ padded (take 14 s)) → NamedBy number_of name_of value before after r
named {A} {number_of} {name_of} e {value} {r} {s} {before} {after} case short q w = record {
  known = λ f h. let same : e ≡ f = cc ((case f).0 h) in rw (← same) let whole : take 14 s ≡ s = take_all 14 s (omega (arith, ap length q)) in (omega (arith, ap length q, w.0), w.1 ∙ ap padded (whole ∙ q));
  unknown = λ none. absurd (none e ((case e).1 refl));
}

-- every name fits the buffer
pub name_short : (e : Errno) → length (name_of e) ≤ 14
unfolding name_of ascii
name_short e = grind arith

-- a name that is padded is 14 bytes
pub padded_long : (s : List ℕ) → length (padded (take 14 s)) ≡ 14
padded_long s = omega (arith, length-append (take 14 s) (replicate (14 - length (take 14 s)) 0), length-replicate {A = ℕ} (14 - length (take 14 s)) 0, length-take 14 s)

-- each is the name's, or a zero
pub padded_at : (s : List ℕ) (j : ℕ) → j < 14 → get_or (padded (take 14 s)) j 0 ≡ get_or s j 0
padded_at s j h = go (ltb j (length (take 14 s))) refl
  where
    here : length (take 14 s) ≡ min 14 (length s)
    here = length-take 14 s

    zeros : List ℕ
    zeros = replicate (14 - length (take 14 s)) 0

    go : (b : Bool) → ltb j (length (take 14 s)) ≡ b → get_or (padded (take 14 s)) j 0 ≡ get_or s j 0
    go true e = get_or_append_left (take 14 s) zeros 0 j (ltb-true j (length (take 14 s)) e) ∙ get_or-take 14 s j 0 h
    go false e = get_or-append_right (take 14 s) zeros (length (take 14 s)) j 0 refl (ltb-false j (length (take 14 s)) e)
        ∙ get_or-replicate (14 - length (take 14 s)) (j - length (take 14 s)) 0 0 (omega (arith, here, ltb-false j (length (take 14 s)) e))
        ∙ sym (get_or_past s j 0 (omega (arith, here, ltb-false j (length (take 14 s)) e)))
