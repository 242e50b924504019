-- `mask_of` meets its contract.
use Rattle.mask.proofs.Laws.{mask_words_lem}
use Rattle.fields.proofs.Laws.{same_mask}
use Rattle.fields.proofs.mask_of.Goals as goal

pub returns : goal.returns
returns c =
    same_mask c.args.bytes.now _ c.args.at c.from_bytes.result (mask_words_lem c.from_bytes.result c.from_bytes.type_inv) c.bytes_at.ensures c.from_bytes.ensures
