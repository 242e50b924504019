-- Room for the answers to a part of an input.
-- Assumes nothing.
use Rattle.std.specs.Prelude.{ℕ, ◌*◌}
use Rattle.answerline.specs.Answers.{longest}

-- the most that is read at a time
abbrev pub most : ℕ
most = 4096

-- room for as many of the longest answers
abbrev pub room : ℕ
room = most * longest
