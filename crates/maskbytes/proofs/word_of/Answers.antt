-- `word_of` meets its contract.
use Rattle.std.proofs.Common.{arith}
use Rattle.maskbytes.proofs.Laws.{bytes_words, eight_packed}
use Rattle.maskbytes.proofs.word_of.Goals as goal

pub returns : goal.returns
returns c =
    eight_packed c.args.b (bytes_words c.args.b c.well_formed.0).small c.args.q c.from_be_bytes.result (omega (arith, c.from_be_bytes.ensures))
