-- What a move did, as a word.
-- The rules: RULES.md, "Moves".
-- Assumes nothing.
use Rattle.std.specs.Prelude.{ℕ, List, Option}
use Rattle.std.specs.Borrow.{MutBor}
use Rattle.errno.specs.Ascii.{ascii}
use Rattle.names.specs.Names.{NamedBy, CaseBy}
use Rattle.rules.specs.declared.Moved.{Moved}
use Rattle.rules.specs.declared.Moved.TheVariants.{Idle, Released, BoundHost, BoundPassthrough}
use Rattle.rules.specs.Queues.{moved_number}

-- the word of each case, in ASCII
unfoldable pub moved_word : Moved → List ℕ
moved_word Idle = ascii "idle"
moved_word Released = ascii "released"
moved_word BoundHost = ascii "host"
moved_word BoundPassthrough = ascii "passthrough"

-- the case that has the value, or none
abbrev pub CaseOf : ℕ → Option Moved → Type 0
CaseOf value r = CaseBy moved_number value r

-- the word of a move's number, of lent memory at entry and at exit
abbrev pub MovedShown : ℕ → MutBor (List ℕ) → MutBor (List ℕ) → ℕ → Type 0
MovedShown value entry exit r = NamedBy moved_number moved_word value entry.now exit.now r
