-- Making a fresh record.
-- The rules: RULES.md, "Record".
-- Assumes nothing.
use Rattle.std.specs.Prelude.{ℕ, cond, ◌&&◌, replicate, leb}
use Rattle.errno.specs.Outcome.{Outcome, granted, refused}
use Rattle.errno.specs.declared.Errno.TheVariants.{Einval}
use Rattle.rules.specs.Commands.{Answer}
use Rattle.rules.specs.State.{State, queues, fresh}
use Rattle.layout.specs.Layout.{fresh_words}
use Rattle.layout.specs.Lent.{LentMut}
use Rattle.layout.specs.Carried.{Memory, memory, ObeysBoth}

-- a fresh record of limits a and d, whatever was there; EINVAL for a limit above 255
unfoldable pub start : ℕ → ℕ → State → Outcome State
start a d s = cond (leb a 255 && leb d 255) (granted (fresh (record { adapter = a; domain = d }))) (refused Einval)

-- its memory: every byte is written
abbrev pub fresh_memory : ℕ → ℕ → Memory
fresh_memory a d = memory (fresh_words a d) (replicate queues 0)

-- a call with limits a and d, of lent memory at entry and at exit
abbrev pub Freshens : ℕ → ℕ → LentMut → LentMut → LentMut → LentMut → Answer → Type 0
Freshens a d words words' drivers drivers' r = ObeysBoth (start a d) (λ m. fresh_memory a d) words words' drivers drivers' r
