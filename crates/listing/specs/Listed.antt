-- What a call of the listing does: its contract.
-- The rules: RULES.md, "Listing".
-- Assumes nothing.
use Rattle.std.specs.Prelude.{ℕ, cond, List, ◌≡◌, length, ltb, Result, IfOk, OnErr}
use Rattle.errno.specs.Errno.{number_of}
use Rattle.errno.specs.declared.Errno.{Errno}
use Rattle.errno.specs.declared.Errno.TheVariants.{Enoent, Enospc}
use Rattle.mask.specs.Bits.{Bits}
use Rattle.rules.specs.declared.Id.{Id}
use Rattle.rules.specs.declared.Matrix.{Matrix}
use Rattle.rules.specs.State.{State, in_product, slots}
use Rattle.rules.specs.Queues.{matrix_adapters, matrix_domains}
use Rattle.rules.specs.Commands.{answered, slot_of}
use Rattle.layout.specs.Lent.{device_with}
use Rattle.lines.specs.Lines.{line_size}
use Rattle.lines.specs.Written.{Written}
use Rattle.lines.specs.declared.Filled.{Filled}

-- the queues of a matrix of the device with an id
unfoldable pub matrix : State → Id → Matrix → Bits
matrix s i w = in_product (matrix_adapters w s (device_with i s.device)) (matrix_domains w s (device_with i s.device))

-- ENOENT, then ENOSPC for a buffer that is too short for a line; 0 is no refusal
unfoldable pub list_errno : State → Id → ℕ → ℕ
list_errno s i n = cond (ltb (slot_of i s.device) slots) (cond (ltb n line_size) (number_of Enospc) 0) (number_of Enoent)

-- nothing is written
abbrev pub Untouched : List ℕ → List ℕ → Type 0
Untouched before after = after ≡ before

-- a call with a place and the buffer `before`, which it leaves as `after`: bytes written and the next place, or a refusal
pub record Listing (s : State) (i : Id) (w : Matrix) (place : ℕ) (before after : List ℕ) (r : Result Filled Errno) : Type 0 where
  pub answer : answered r ≡ list_errno s i (length before)
  pub accepted : IfOk r (λ f. Written (matrix s i w) place before after f.written f.next)
  pub refused : OnErr r (Untouched before after)
