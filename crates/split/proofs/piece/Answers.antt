-- `piece` meets its contract.
use native.Mathlib.Omega.{arith}
use Rattle.split.proofs.Laws.{end_within, piece_is, piece_past}
use Rattle.split.proofs.piece.Goals as goal

pub returns-then-s-from : goal.returns-then-s-from
returns-then-s-from c = piece_past _ _ c.args.s.now (omega arith)

pub slice_bounds-result-count-2 : goal.slice_bounds-result-count-2
slice_bounds-result-count-2 c = let a = c.args in omega (arith, (end_within a.c a.from a.s.now (omega arith)).0, c.end.ensures)

pub slice_bounds-result-start-2 : goal.slice_bounds-result-start-2
slice_bounds-result-start-2 c = let a = c.args in omega (arith, (end_within a.c a.from a.s.now (omega arith)).0, c.end.ensures)

pub slice_bounds-result-end-2 : goal.slice_bounds-result-end-2
slice_bounds-result-end-2 c = let a = c.args in omega (arith, (end_within a.c a.from a.s.now (omega arith)).1, c.end.ensures)

pub returns : goal.returns
returns c = piece_is _ _ _ c.args.s.now c.end.ensures
