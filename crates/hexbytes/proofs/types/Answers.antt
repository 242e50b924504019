-- `types` meets its contract.
use Rattle.hexbytes.specs.HexBytes.{bytes_text, types_text}
use Rattle.hexbytes.proofs.types.Goals as goal

pub returns : goal.returns
unfolding bytes_text types_text
returns c = c.bytes.ensures
