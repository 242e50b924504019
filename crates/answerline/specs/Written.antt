-- Bytes that are written into a buffer.
-- Assumes nothing.
use Rattle.std.specs.Prelude.{ℕ, List, ◌++◌, ◌≡◌, length, drop}
use Rattle.std.specs.Borrow.{MutBor}

-- bytes that are written at the start of a buffer: r is how many
pub record Written (bytes before after : List ℕ) (r : ℕ) : Type 0 where
  pub shown : after ≡ bytes ++ drop (length bytes) before
  pub many : r ≡ length bytes

-- the same of lent memory at entry and at exit
abbrev pub Writes : List ℕ → MutBor (List ℕ) → MutBor (List ℕ) → ℕ → Type 0
Writes bytes entry exit r = Written bytes entry.now exit.now r
