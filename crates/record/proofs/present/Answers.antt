-- `present` meets its contract.
use Rattle.std.proofs.Common.{ap, ◌∙◌}
use lib.Dec.{ltb}
use Rattle.rules.specs.State.{slots}
use Rattle.layout.specs.Layout.{device_in, flag}
use Rattle.record.proofs.Laws.{present_read}
use Rattle.record.proofs.present.Goals as goal

pub returns : goal.returns
unfolding device_in flag
returns c = ap flag c.slot_word.ensures ∙ present_read c.args.words.now c.args.slot (ltb c.args.slot slots)
