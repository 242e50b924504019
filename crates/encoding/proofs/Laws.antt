-- The command of an operation, and the size of a step.
-- Assumes nothing.
use Prim.Native.Nat.{ℕ, ◌+◌, ◌-◌, ◌*◌, ◌≤◌, ◌<◌}
use mathlib.Core.Bool.{cond}
use mathlib.Core.List.{List}
use mathlib.Core.Path.{◌≡◌, sym, ap, ◌∙◌}
use native.Mathlib.Omega.{arith}
use lib.ListN.{length, get_or, drop, length-drop}
use lib.Seq.{take_all}
use borrow.Author.Tests.{le-leb, lt-leb, ne_eqb}
use Rattle.std.specs.Prelude.{Option, Some, None, slice_range}
use Rattle.rules.specs.declared.Id.{Id}
use Rattle.rules.specs.declared.Kind.{Kind}
use Rattle.model.specs.Steps.{configure}
use Rattle.fields.specs.Fields.{configuration_of}
use Rattle.encoding.specs.Encoding.{size_of, whole, command_of}

-- the operation is n
pub at_op : {op : ℕ} (n : ℕ) (k : Kind) (i : Id) (text : List ℕ) → op ≡ n → command_of op k i text ≡ command_of n k i text
at_op n k i text e = ap (λ (o : ℕ). command_of o k i text) e

-- an operation that is not one of the first eight
pub is_configure : (op : ℕ) (k : Kind) (i : Id) (text : List ℕ) → (op ≡ 0 → ⊥) → (op ≡ 1 → ⊥) → (op ≡ 2 → ⊥) → (op ≡ 3 → ⊥) → (op ≡ 4 → ⊥)
    → (op ≡ 5 → ⊥) → (op ≡ 6 → ⊥) → (op ≡ 7 → ⊥) → command_of op k i text ≡ configure (configuration_of text)
unfolding command_of
is_configure op k i text h0 h1 h2 h3 h4 h5 h6 h7 =
    rw (ne_eqb op 0 h0, ne_eqb op 1 h1, ne_eqb op 2 h2, ne_eqb op 3 h3, ne_eqb op 4 h4, ne_eqb op 5 h5, ne_eqb op 6 h6, ne_eqb op 7 h7)

-- the size of a step: no header is left, no whole step is left, a whole one is
abbrev pub sized : List ℕ → Option ℕ
sized b = cond (whole b) (Some (size_of b)) None

module _ (b : List ℕ) where
  pub none_left : length b < 20 → None ≡ sized b
  unfolding whole
  none_left h = sym (rw (lt-leb 20 (length b) h))

  pub part_left : 20 ≤ length b → length b < 20 + get_or b 18 0 * 256 + get_or b 19 0 → None ≡ sized b
  unfolding whole size_of
  part_left h l = sym (rw (le-leb 20 (length b) h, lt-leb (20 + (get_or b 18 0 * 256 + get_or b 19 0)) (length b) (omega arith)))

  pub whole_left : {n : ℕ} → n ≡ 20 + get_or b 18 0 * 256 + get_or b 19 0 → n ≤ length b → Some n ≡ sized b
  unfolding whole size_of
  whole_left {n} e l =
      let m : n ≡ 20 + (get_or b 18 0 * 256 + get_or b 19 0) = omega arith in
      ap Some m ∙ sym (rw (le-leb 20 (length b) (omega arith), le-leb (20 + (get_or b 18 0 * 256 + get_or b 19 0)) (length b) (omega arith)))

-- what is left of some bytes at an index
pub left_is : {left : List ℕ} (b : List ℕ) (at : ℕ) → left ≡ slice_range b at (length b) → left ≡ drop at b
left_is b at e = e ∙ take_all (length b - at) (drop at b) (omega (arith, length-drop at b))

-- nothing is left past their end
pub past : (b : List ℕ) (at : ℕ) → length b < at → None ≡ sized (drop at b)
past b at h = none_left (drop at b) (omega (arith, length-drop at b))
