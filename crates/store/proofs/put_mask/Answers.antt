-- `put_mask` meets its contract.
use Rattle.std.proofs.Common.{arith}
use Rattle.mask.proofs.Laws.{mask_words_lem}
use Rattle.store.proofs.Laws.{four_put}
use Rattle.store.proofs.put_mask.Goals as goal

pub returns : goal.returns
returns c =
    let m = c.args.mask in
    four_put c.args.words.now c.args.at _ c.copy_from_slice.new.self m.words (omega arith) (omega arith) c.copy_from_slice.ensures.after
    (mask_words_lem m c.well_formed.1.1.0).long
