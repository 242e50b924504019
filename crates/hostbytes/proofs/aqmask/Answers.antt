-- `aqmask` meets its contract.
use mathlib.Core.Path.{ap, ◌∙◌}
use Rattle.matrixbytes.specs.Matrices.{mask_bytes}
use Rattle.hostbytes.proofs.aqmask.Goals as goal

pub returns : goal.returns
unfolding mask_bytes
returns c = c.to_bytes.ensures ∙ ap mask_bytes c.aqmask.ensures
