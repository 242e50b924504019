-- A line of the console (RULES.md, "Console"): a request, or bad text. The state is not looked at.
-- Assumes nothing.
use Rattle.std.specs.Prelude.{ℕ, cond, List, leb, length}
use Rattle.errno.specs.Outcome.{Outcome}
use Rattle.encoding.specs.Encoding.{Request}
use Rattle.split.specs.Cut.{cut, holds}
use Rattle.wordtext.specs.Words.{bad}
use Rattle.linewords.specs.Requests.{by_words}

-- the most bytes of a line
abbrev pub most_bytes : ℕ
most_bytes = 1024

-- the request of a piece of an input, whose words are parted by one space
unfoldable pub piece_request : List ℕ → Outcome Request
piece_request s = cond (leb (length s) most_bytes) (by_words (cut 32 s)) bad

-- the request of a line: one that holds a newline is bad text
unfoldable pub line_request : List ℕ → Outcome Request
line_request line = cond (holds 10 line) bad (piece_request line)
