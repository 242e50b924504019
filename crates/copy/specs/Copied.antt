-- Bytes that are copied into a buffer.
-- Assumes nothing.
use Rattle.std.specs.Prelude.{ℕ, ◌+◌, cond, List, leb, length}
use Rattle.std.proofs.Math.Seq.{paste}

-- the buffer d with the bytes b from an index on, if they fit
unfoldable pub copied : List ℕ → ℕ → List ℕ → List ℕ
copied d at b = cond (leb (at + length b) (length d)) (paste d at b (length b)) d
