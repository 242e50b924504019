-- What a call leaves behind its references: a record over what they hold, then its name over lent memory at entry and at exit.
-- Each takes what the function below promises of its result.
-- Assumes nothing.
use Rattle.std.specs.Prelude.{ℕ, Bool, cond, ◌≡◌, Result, IfOk}
use Rattle.std.specs.Borrow.{MutBor}
use Rattle.errno.specs.declared.Errno.{Errno}
use Rattle.rules.specs.Commands.{answered}
use Rattle.lines.specs.declared.Filled.{Filled}
use Rattle.sweep.specs.declared.Swept.{Swept}

-- a flag
unfoldable pub bit : Bool → ℕ
bit b = cond b 1 0

-- a lent number
abbrev pub LentNumber : Type 0
LentNumber = MutBor ℕ

-- a sweep: r is the moves used, and 1 or 0 is left for whether any remain
pub record SweepLeft (promise : Swept → Type 0) (more r : ℕ) : Type 0 where
  pub swept : Swept
  pub kept : promise swept
  pub used : r ≡ swept.used
  pub remain : more ≡ bit swept.more

abbrev pub SweepShown : (Swept → Type 0) → LentNumber → ℕ → Type 0
SweepShown promise more r = SweepLeft promise more.now r

-- a listing: r is the answer's errno value, and the two numbers are those of the listing, or what they were
pub record ListLeft (promise : Result Filled Errno → Type 0) (written written' next next' r : ℕ) : Type 0 where
  pub listed : Result Filled Errno
  pub kept : promise listed
  pub answer : r ≡ answered listed
  pub accepted : IfOk listed (λ f. (written' ≡ f.written) × (next' ≡ f.next))
  pub refused : (r ≡ 0 → ⊥) → (written' ≡ written) × (next' ≡ next)

abbrev pub ListShown : (Result Filled Errno → Type 0) → LentNumber → LentNumber → LentNumber → LentNumber → ℕ → Type 0
ListShown promise written written' next next' r = ListLeft promise written.now written'.now next.now next'.now r
