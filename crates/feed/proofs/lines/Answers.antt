-- `lines` meets its contract. The invariant: what the whole comes to is what was done, and what the lines from `at` on come to.
use native.Mathlib.Omega.{arith}
use Rattle.split.proofs.Laws.{piece_end}
use Rattle.feed.proofs.Laws.{starts, room_left, less_left, goes_on, ends}
use Rattle.feed.proofs.lines.Goals as goal

pub returns-then-part-e : goal.returns-then-part-e
returns-then-part-e c = ends c.loop-line.invariant (piece_end 10 _ c.args.part.now c.piece-line.ensures c.loop-line.invariant.within).0 (omega arith)

pub one-written-requires : goal.one-written-requires
one-written-requires c = room_left c.loop-line.invariant (piece_end 10 _ c.args.part.now c.piece-line.ensures c.loop-line.invariant.within).0 (omega arith)

pub loop-line-smaller : goal.loop-line-smaller
loop-line-smaller c = less_left c.loop-line.invariant (piece_end 10 _ c.args.part.now c.piece-line.ensures c.loop-line.invariant.within).0 (omega arith)

pub loop-line-preserved : goal.loop-line-preserved
loop-line-preserved c = goes_on c.loop-line.invariant (piece_end 10 _ c.args.part.now c.piece-line.ensures c.loop-line.invariant.within).0 (omega arith) c.piece-line.ensures c.one-written.ensures

pub loop-line-init : goal.loop-line-init
loop-line-init c = starts _ _ _ _ _ c.requires.0 c.requires.1
