-- What a move writes: the driver byte of its queue.
-- The rules: RULES.md, "Moves".
-- Assumes nothing.
use Rattle.std.specs.Prelude.{ℕ, List, ◌≡◌, set}
use Rattle.rules.specs.declared.Driver.TheVariants.{Unbound, Host, Passthrough}
use Rattle.rules.specs.declared.Moved.{Moved}
use Rattle.rules.specs.declared.Moved.TheVariants.{Idle, Released, BoundHost, BoundPassthrough}
use Rattle.rules.specs.Queues.{move_answer, move}
use Rattle.layout.specs.Layout.{state_in, byte_of}
use Rattle.layout.specs.Lent.{Lent, LentMut}

-- the bytes after a move of queue n that answered m: an idle move writes nothing
unfoldable pub bytes_after : Moved → ℕ → List ℕ → List ℕ
bytes_after Idle n qs = qs
bytes_after Released n qs = set qs n (byte_of Unbound)
bytes_after BoundHost n qs = set qs n (byte_of Host)
bytes_after BoundPassthrough n qs = set qs n (byte_of Passthrough)

-- the bytes after a move of queue n
unfoldable pub move_bytes : List ℕ → ℕ → List ℕ → List ℕ
move_bytes ws n qs = bytes_after (move_answer n (state_in ws qs)) n qs

-- a move of queue q, on the words ws and the driver bytes qs, which it leaves as rs
pub record Moving (q : ℕ) (ws qs rs : List ℕ) (r : Moved) : Type 0 where
  pub answer : r ≡ move_answer q (state_in ws qs)
  pub state : state_in ws rs ≡ move q (state_in ws qs)
  pub drivers : rs ≡ move_bytes ws q qs

-- the same of lent memory, at entry and at exit
abbrev pub Moves : ℕ → Lent → LentMut → LentMut → Moved → Type 0
Moves q words drivers after r = Moving q words.now drivers.now after.now r
