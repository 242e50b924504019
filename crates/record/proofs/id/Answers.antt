-- `id` meets its contract.
use Rattle.std.proofs.Common.{ℕ, ◌∙◌}
use mathlib.Core.Path.{ap₂}
use lib.Dec.{ltb}
use Rattle.rules.specs.State.{slots}
use Rattle.layout.specs.Layout.{device_in}
use Rattle.record.proofs.Laws.{id_read}
use Rattle.record.proofs.id.Goals as goal

pub returns : goal.returns
unfolding device_in
returns c =
    ap₂ (λ (h l : ℕ). record { hi = h; lo = l }) c.slot_word.ensures c.slot_word-2.ensures ∙ id_read c.args.words.now c.args.slot (ltb c.args.slot slots)
