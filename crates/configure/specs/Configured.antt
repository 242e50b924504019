-- What setting the configuration leaves in memory.
-- The rules: RULES.md, "Commands".
-- Assumes nothing.
use Rattle.rules.specs.declared.Configuration.{Configuration}
use Rattle.rules.specs.State.{queues}
use Rattle.rules.specs.Commands.{Answer, configure}
use Rattle.layout.specs.Layout.{put_config, unbind, taken_away}
use Rattle.layout.specs.Lent.{LentMut}
use Rattle.layout.specs.Carried.{Memory, memory, ObeysBoth}

-- the memory with the configuration replaced, and the queues that it takes away unbound
abbrev pub configured : Configuration → Memory → Memory
configured c m = memory (put_config m.words c) (unbind m.drivers (taken_away m.words c) queues)

-- setting the configuration, of lent memory at entry and at exit
abbrev pub Configures : Configuration → LentMut → LentMut → LentMut → LentMut → Answer → Type 0
Configures c words words' drivers drivers' r = ObeysBoth (configure c) (configured c) words words' drivers drivers' r
