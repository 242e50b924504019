-- The moves remaining, of lent memory.
-- The rules: RULES.md, "Moves".
-- Assumes nothing.
use Rattle.std.specs.Prelude.{ℕ}
use Rattle.rules.specs.Queues.{Remaining}
use Rattle.layout.specs.Layout.{state_in}
use Rattle.layout.specs.Lent.{Lent}

-- the number of moves remaining, which is 0 exactly when no move is due
abbrev pub Remains : Lent → Lent → ℕ → Type 0
Remains words drivers r = Remaining (state_in words.now drivers.now) r
