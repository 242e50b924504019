-- What a call for the masks of a matrix leaves: a record over what the buffer holds, then its name over lent memory.
-- Assumes nothing.
use Rattle.std.specs.Prelude.{ℕ, List, ◌++◌, ◌≡◌, Result, IfOk}
use Rattle.errno.specs.declared.Errno.{Errno}
use Rattle.mask.specs.Bits.{Bits, bits, numbers}
use Rattle.rules.specs.declared.Masks.{Masks}
use Rattle.rules.specs.Commands.{answered}
use Rattle.layout.specs.Lent.{LentMut}

-- a mask as 32 bytes in mask order
unfoldable pub mask_bytes : Bits → List ℕ
mask_bytes m = numbers 8 32 m 0

-- three masks, 96 bytes
abbrev pub masks_bytes : Masks → List ℕ
masks_bytes m = mask_bytes (bits m.adapters) ++ (mask_bytes (bits m.domains) ++ mask_bytes (bits m.controls))

-- masks: r is the answer's errno value, and the buffer holds the masks, or what it held
pub record MasksLeft (promise : Result Masks Errno → Type 0) (before after : List ℕ) (r : ℕ) : Type 0 where
  pub shown : Result Masks Errno
  pub kept : promise shown
  pub answer : r ≡ answered shown
  pub accepted : IfOk shown (λ m. after ≡ masks_bytes m)
  pub refused : (r ≡ 0 → ⊥) → after ≡ before

abbrev pub MasksShown : (Result Masks Errno → Type 0) → LentMut → LentMut → ℕ → Type 0
MasksShown promise entry exit r = MasksLeft promise entry.now exit.now r
