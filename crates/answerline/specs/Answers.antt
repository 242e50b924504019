-- The answer lines of the console (RULES.md, "Console").
-- Assumes nothing.
use Rattle.std.specs.Prelude.{ℕ, ◌+◌, Bool, cond, List, [], ◌∷◌, ◌++◌, ◌≡◌, eqb, leb, length}
use Rattle.std.proofs.Math.Seq.{paste}
use Rattle.std.specs.Borrow.{MutBor}
use Rattle.errno.specs.declared.Errno.{Errno}
use Rattle.errno.specs.Errno.{number_of, name_of, cases}
use Rattle.errno.specs.Ascii.{ascii}
use Rattle.rules.specs.declared.Moved.{Moved}
use Rattle.movednames.specs.Moves.{moved_word}
use Rattle.decimal.specs.Decimal.{decimal}
use Rattle.answerline.specs.declared.Said.{Said}
use Rattle.answerline.specs.declared.Said.TheVariants.{Done, Refused, Did, Used}

-- a text and its newline
abbrev pub ended : List ℕ → List ℕ
ended text = text ++ 10 ∷ []

-- the name of an errno value, by the table of the cases
unfoldable pub name_in : List Errno → ℕ → List ℕ
name_in [] n = []
name_in (e ∷ es) n = cond (eqb (number_of e) n) (name_of e) (name_in es n)

-- the answer to a command, by its errno value: 0 is no refusal
unfoldable pub command_line : ℕ → List ℕ
command_line n = ended (cond (eqb n 0) (ascii "ok") (ascii "refused " ++ name_in cases n))

-- the answer to a move: what it did
unfoldable pub move_line : Moved → List ℕ
move_line m = ended (ascii "ok " ++ moved_word m)

-- the answer to a sweep: the moves used
unfoldable pub sweep_line : ℕ → List ℕ
sweep_line n = ended (ascii "ok " ++ decimal n)

-- the answer line of each case
unfoldable pub said_line : Said → List ℕ
said_line Done = command_line 0
said_line (Refused e) = command_line (number_of e)
said_line (Did m) = move_line m
said_line (Used n) = sweep_line n

-- the length of the longest answer line: refused EADDRNOTAVAIL and its newline
abbrev pub longest : ℕ
longest = 22

-- there is room for the longest line at an index
abbrev pub room : List ℕ → ℕ → Bool
room out at = leb (at + longest) (length out)

-- a line that is put at an index of a buffer, if there is room for the longest: r is the index after it
pub record Put (line : List ℕ) (at : ℕ) (before after : List ℕ) (r : ℕ) : Type 0 where
  pub bytes : after ≡ cond (room before at) (paste before at line (length line)) before
  pub next : r ≡ cond (room before at) (at + length line) at

-- the same of lent memory at entry and at exit
abbrev pub Puts : List ℕ → ℕ → MutBor (List ℕ) → MutBor (List ℕ) → ℕ → Type 0
Puts line at entry exit r = Put line at entry.now exit.now r
