-- `feed` meets its contract.
use native.Mathlib.Omega.{arith}
use mathlib.Core.Path.{sym}
use lib.Seq.{length-take-le}
use Rattle.feed.proofs.Laws.{feeding}
use borrow.Author.Rules.{rules}
use Rattle.feed.proofs.feed.Goals as goal

pub take_part-requires : goal.take_part-requires
take_part-requires c = let k = length-take-le c.min-n.result c.args.part.now (omega (arith, c.min-n.ensures)) in
    (search rules, omega (arith, c.min.ensures), omega (arith, k, c.min-n.ensures))

pub slice_bounds-take_part-end-2 : goal.slice_bounds-take_part-end-2
slice_bounds-take_part-end-2 c = sym (length-take-le c.min-n.result c.args.part.now (omega (arith, c.min-n.ensures)))

pub returns : goal.returns
returns c = feeding c.min.ensures c.min-n.ensures c.take_part.ensures
