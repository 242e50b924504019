-- The words of a console line (RULES.md, "Console"): a name, a kind of number, a number of at most 255.
-- Assumes nothing.
use Rattle.std.specs.Prelude.{ℕ, Bool, true, false, cond, ◌&&◌, List, [], ◌∷◌, eqb}
use Prim.Native.String.{String}
use Rattle.errno.specs.Ascii.{ascii}
use Rattle.errno.specs.Outcome.{Outcome, granted, refused}
use Rattle.errno.specs.declared.Errno.TheVariants.{Einval}
use Rattle.number.specs.Text.{number_text, at_most}
use Rattle.rules.specs.declared.Kind.{Kind}
use Rattle.rules.specs.declared.Kind.TheVariants.{Adapter, Domain, Control}

-- equal bytes
unfoldable pub same : List ℕ → List ℕ → Bool
same [] [] = true
same [] (y ∷ ys) = false
same (x ∷ xs) [] = false
same (x ∷ xs) (y ∷ ys) = eqb x y && same xs ys

-- a word is this one
abbrev pub is : List ℕ → String → Bool
is w name = same w (ascii name)

-- bad text
abbrev pub bad : {A : Type 0} → Outcome A
bad = refused Einval

-- a kind of number
unfoldable pub kind_text : List ℕ → Outcome Kind
kind_text w = cond (is w "adapter") (granted Adapter) (cond (is w "domain") (granted Domain) (cond (is w "control") (granted Control) bad))

-- a number of at most 255
unfoldable pub byte_text : List ℕ → Outcome ℕ
byte_text w = at_most 255 (number_text w)
