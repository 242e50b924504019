-- The name of an errno value, given the number.
-- The rules: RULES.md, "Refusals".
-- Assumes nothing.
use Rattle.std.specs.Prelude.{ℕ, List, ◌≡◌, ◌↔◌, length, Option, Some}
use Rattle.std.specs.Borrow.{MutBor}
use Rattle.errno.specs.declared.Errno.{Errno}
use Rattle.errno.specs.Errno.{number_of, name_of, padded}

-- r is what has the value, or none where nothing has it
abbrev pub CaseBy : {A : Type 0} → (A → ℕ) → ℕ → Option A → Type 0
CaseBy {A} number_of value r = (e : A) → (value ≡ number_of e) ↔ (r ≡ Some e)

-- the case that has an errno value
abbrev pub CaseOf : ℕ → Option Errno → Type 0
CaseOf value r = CaseBy number_of value r

-- the name of what has the value, as names go by `name_of` and values by `number_of`: r is its length; where nothing has the value r
-- is 0, and the buffer holds what it held
pub record NamedBy {A : Type 0} (number_of : A → ℕ) (name_of : A → List ℕ) (value : ℕ) (before after : List ℕ) (r : ℕ) : Type 0 where
  pub known : (e : A) → value ≡ number_of e → (r ≡ length (name_of e)) × (after ≡ padded (name_of e))
  pub unknown : ((e : A) → value ≡ number_of e → ⊥) → (r ≡ 0) × (after ≡ before)

-- the name of an errno value
abbrev pub NameLeft : ℕ → List ℕ → List ℕ → ℕ → Type 0
NameLeft value before after r = NamedBy number_of name_of value before after r

abbrev pub NameShown : ℕ → MutBor (List ℕ) → MutBor (List ℕ) → ℕ → Type 0
NameShown value entry exit r = NameLeft value entry.now exit.now r
