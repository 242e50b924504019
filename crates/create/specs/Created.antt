-- What an accepted create leaves in the words.
-- The rules: RULES.md, "Commands".
-- Assumes nothing.
use Rattle.std.specs.Prelude.{ℕ, true, List}
use Rattle.rules.specs.declared.Id.{Id}
use Rattle.rules.specs.Commands.{free_slot}
use Rattle.layout.specs.Layout.{device_in, put_device}

-- the lowest free slot is given the id
abbrev pub created : Id → List ℕ → List ℕ
created i ws = put_device ws (free_slot (device_in ws)) true i
