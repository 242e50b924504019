-- `configuration_of` meets its contract.
use Rattle.fields.specs.Fields.{configuration_of}
use Rattle.fields.proofs.configuration_of.Goals as goal

pub returns : goal.returns
unfolding configuration_of
returns c = rw (c.mask_of.ensures, c.mask_of-2.ensures, c.mask_of-3.ensures, c.bytes_at.ensures)
