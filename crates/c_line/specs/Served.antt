-- What a caller in C is promised of a console line.
-- Assumes nothing.
use Rattle.std.specs.Prelude.{ℕ, ◌<◌, ◌≤◌, List, ◌++◌, ◌≡◌, length, drop}
use Rattle.std.specs.Borrow.{MutBor}
use denote.Triple.Both.{Both}
use Rattle.errno.specs.Errno.{number_of}
use Rattle.errno.specs.declared.Errno.TheVariants.{Enospc}
use Rattle.layout.specs.Lent.{Lent}
use Rattle.layout.specs.Carried.{Memory, read}
use Rattle.served.specs.Served.{Lending, entering, leaving}
use Rattle.answerline.specs.Answers.{longest}
use Rattle.linetext.specs.Lines.{line_request}
use Rattle.consoleline.specs.Answering.{answer_line, Answered}

-- One line on the memory m, which it leaves as n, with room for the answer in `before`, which is left as `after`, and a number beside it.
pub record LineServed (line : List ℕ) (m n : Memory) (before after : List ℕ) (old new r : ℕ) : Type 0 where
  -- the longest answer does not fit: ENOSPC, the line is not carried out, and nothing is written
  pub short : length before < longest → (r ≡ number_of Enospc) × (n ≡ m) × (after ≡ before) × (new ≡ old)
  -- else it is answered
  pub answered : longest ≤ length before → r ≡ 0
  pub written : longest ≤ length before → new ≡ length (answer_line line (read m))
  pub out : longest ≤ length before → after ≡ answer_line line (read m) ++ drop new before
  -- and carried out: every byte, and the calls
  pub done : longest ≤ length before → Answered (line_request line) m n (answer_line line (read m))

-- the same of lent memory
abbrev pub LineServes : Lent → Lending → Lending → Lending → Both (MutBor ℕ) (MutBor ℕ) → ℕ → Type 0
LineServes line words drivers out written r =
    LineServed line.now (entering words drivers) (leaving words drivers) out.entry.now out.exit.now written.entry.now written.exit.now r
