-- The words of a line from a place on.
-- Assumes nothing.
use Rattle.std.specs.Prelude.{ℕ, cond, List, [], leb, length, drop}
use Rattle.split.specs.Cut.{cut}
use Rattle.linereader.specs.declared.LineReader.{LineReader}

-- parted by one space each; past the end of the line there is none
unfoldable pub words_from : ℕ → List ℕ → List (List ℕ)
words_from at s = cond (leb at (length s)) (cut 32 (drop at s)) []

-- the words that a reader has before it
abbrev pub left : LineReader → List (List ℕ)
left r = words_from r.at r.line.now
