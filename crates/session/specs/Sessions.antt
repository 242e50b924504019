-- What a turn of the session passes on.
-- Assumes nothing.
use Rattle.std.specs.Prelude.{ℕ, min, List, ◌++◌, take}
use Rattle.rules.specs.State.{Limits}
use Rattle.layout.specs.Carried.{Memory}
use Rattle.served.specs.Served.{Lending, entering, leaving}
use Rattle.feed.specs.Input.{most_kept, Taken}
use Rattle.session.specs.declared.Line.{Line}

-- What was taken of an input before is taken after, and some bytes more, with what is held of a line before and after.
pub record Passed (line line' : Line) (m m' : Memory) : Type 0 where
  pub goes : (l : Limits) (bytes before : List ℕ) → Taken l bytes before m (take (min line.held most_kept) line.bytes)
      → (part : List ℕ) × ((text : List ℕ) × Taken l (bytes ++ part) (before ++ text) m' (take (min line'.held most_kept) line'.bytes))

-- the same of lent memory
abbrev pub Passes : Line → Line → Lending → Lending → Type 0
Passes line line' words drivers = Passed line line' (entering words drivers) (leaving words drivers)
