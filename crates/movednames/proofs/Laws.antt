-- The words' lengths.
-- Assumes nothing.
use Rattle.std.proofs.Common.{◌≤◌, length, arith}
use Rattle.errno.specs.Ascii.{ascii}
use Rattle.rules.specs.declared.Moved.{Moved}
use Rattle.movednames.specs.Moves.{moved_word}

-- every word fits the buffer of a name
pub word_short : (m : Moved) → length (moved_word m) ≤ 14
unfolding moved_word ascii
word_short m = grind arith
