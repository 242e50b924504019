-- `hex_mask` meets its contract.
use mathlib.Core.Path.{◌∙◌}
use Rattle.masktext.specs.Text as Text
use Rattle.configtext.proofs.Laws.{hex_is, hex_not}
use Rattle.configtext.proofs.hex_mask.Goals as goal

pub returns-then-not-starts_hex : goal.returns-then-not-starts_hex
unfolding Text.outcome
returns-then-not-starts_hex c = hex_not _ c.starts_hex.ensures c.if-not-starts_hex.true

pub returns : goal.returns
returns c = c.parse.ensures ∙ hex_is _ c.starts_hex.ensures c.if-not-starts_hex.false c.empty.ensures
