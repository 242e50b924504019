-- What sweeps write: the driver bytes, one for each queue.
-- The rules: RULES.md, "Moves".
-- Assumes nothing.
use Rattle.std.specs.Prelude.{ℕ, zero, suc, ◌-◌, min, List, Option, Some, None, ◌≡◌, cond, eqb, leb, set}
use Rattle.rules.specs.declared.Driver.{Driver}
use Rattle.rules.specs.State.{queues}
use Rattle.rules.specs.Queues.{due_at, sum_from, most_moves}
use Rattle.rules.specs.Sweeps.{Sweep}
use Rattle.layout.specs.Layout.{state_in, byte_of}
use Rattle.layout.specs.Lent.{Lent, LentMut}
use Rattle.bind.specs.Moves.{move_bytes}
use Rattle.sweep.specs.declared.Swept.{Swept}

-- the bytes after m moves of queue n
unfoldable pub moves_bytes : List ℕ → ℕ → ℕ → List ℕ → List ℕ
moves_bytes ws zero n qs = qs
moves_bytes ws (suc m) n qs = moves_bytes ws m n (move_bytes ws n qs)

-- the bytes after all moves that were due of queue n: its target, where any was due
abbrev pub finished_bytes : ℕ → Driver → ℕ → List ℕ → List ℕ
finished_bytes due t n qs = cond (eqb due 0) qs (set qs n (byte_of t))

-- the moves that are left of b where n are due, or none where they do not suffice
unfoldable pub left_of : ℕ → ℕ → Option ℕ
left_of b n = cond (leb n b) (Some (b - n)) None

-- the bytes after a sweep of the n queues from k on with b moves to make
unfoldable pub sweep_bytes : List ℕ → ℕ → ℕ → ℕ → List ℕ → List ℕ
sweep_bytes ws zero k b qs = qs
sweep_bytes ws (suc n) k b qs =
    sweep_bytes ws n (suc k) (b - min b (due_at (state_in ws qs) k)) (moves_bytes ws (min b (due_at (state_in ws qs) k)) k qs)

-- a sweep of the n queues from k on with b moves: the bytes that it leaves, and the moves left, or none where b falls short
pub record PartSweeping (b n k : ℕ) (ws qs rs : List ℕ) (r : Option ℕ) : Type 0 where
  pub drivers : rs ≡ sweep_bytes ws n k b qs
  pub left : r ≡ left_of b (sum_from n k (due_at (state_in ws qs)))

-- a sweep with a budget, on the words ws and the driver bytes qs, which it leaves as rs
pub record Sweeping (budget : ℕ) (ws qs rs : List ℕ) (r : Swept) : Type 0 where
  pub sweep : Sweep budget (state_in ws qs) (state_in ws rs) r.used r.more
  pub drivers : rs ≡ sweep_bytes ws queues 0 (min budget most_moves) qs

-- a sweep of some queues, of lent memory at entry and at exit
abbrev pub PartSweeps : ℕ → ℕ → ℕ → Lent → LentMut → LentMut → Option ℕ → Type 0
PartSweeps b n k words drivers after r = PartSweeping b n k words.now drivers.now after.now r

-- a sweep with a budget, of lent memory at entry and at exit
abbrev pub Sweeps : ℕ → Lent → LentMut → LentMut → Swept → Type 0
Sweeps budget words drivers after r = Sweeping budget words.now drivers.now after.now r
