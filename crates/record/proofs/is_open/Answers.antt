-- `is_open` meets its contract.
use Rattle.std.proofs.Common.{ap, ◌∙◌}
use lib.Dec.{ltb}
use Rattle.rules.specs.State.{slots}
use Rattle.layout.specs.Layout.{device_in, flag}
use Rattle.record.proofs.Laws.{open_read}
use Rattle.record.proofs.is_open.Goals as goal

pub returns : goal.returns
unfolding device_in flag
returns c = ap flag c.slot_word.ensures ∙ open_read c.args.words.now c.args.slot (ltb c.args.slot slots)
