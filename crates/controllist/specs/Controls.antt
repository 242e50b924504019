-- The assigned control domains of a device as text.
-- The rules: RULES.md, "Listing".
-- Assumes nothing.
use Rattle.std.specs.Prelude.{ℕ, ◌/◌, ◌%◌, cond, List, [], ◌∷◌, ◌++◌, ◌≡◌, length, drop, ltb}
use Rattle.std.specs.Borrow.{MutBor}
use Rattle.errno.specs.Errno.{number_of}
use Rattle.errno.specs.declared.Errno.TheVariants.{Enoent}
use Rattle.digits.specs.Digits.{hex_digit}
use Rattle.mask.specs.Bits.{Bits}
use Rattle.rules.specs.declared.Id.{Id}
use Rattle.rules.specs.State.{Devices, slots}
use Rattle.rules.specs.Commands.{slot_of}
use Rattle.layout.specs.Lent.{device_with, LentMut}
use Rattle.lines.specs.Lines.{set_from}

-- a domain's line: dddd and a newline
unfoldable pub domain_line : ℕ → List ℕ
domain_line d = 48 ∷ 48 ∷ hex_digit (d / 16) ∷ hex_digit (d % 16) ∷ 10 ∷ []

-- the lines of some domains
unfoldable pub domain_lines : List ℕ → List ℕ
domain_lines [] = []
domain_lines (d ∷ ds) = domain_line d ++ domain_lines ds

-- the text of a set of domains, by ascending number
unfoldable pub domain_text : Bits → List ℕ
domain_text m = domain_lines (set_from 256 0 m)

-- a list of control domains: r is the errno value; the text stands at the start of the buffer, which is else as it was
pub record ControlsLeft (vs : Devices) (i : Id) (before after : List ℕ) (written written' r : ℕ) : Type 0 where
  pub answer : r ≡ cond (ltb (slot_of i vs) slots) 0 (number_of Enoent)
  pub accepted : r ≡ 0 → (after ≡ domain_text (device_with i vs).controls ++ drop written' before)
      × (written' ≡ length (domain_text (device_with i vs).controls))
  pub refused : (r ≡ 0 → ⊥) → (after ≡ before) × (written' ≡ written)

-- the same of lent memory at entry and at exit
abbrev pub ControlsShown : Devices → Id → LentMut → LentMut → MutBor ℕ → MutBor ℕ → ℕ → Type 0
ControlsShown vs i before after written written' r = ControlsLeft vs i before.now after.now written.now written'.now r
