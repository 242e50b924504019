-- `holds` meets its contract: one byte more is looked at.
use Rattle.std.proofs.Common.{refl, sym, ◌∙◌, arith}
use Rattle.split.proofs.Laws.{holds_turn, holds_end}
use Rattle.split.proofs.holds.Goals as goal

pub loop-b-preserved : goal.loop-b-preserved
loop-b-preserved c = let l = c.loop-b in l.invariant ∙ holds_turn c.args.c c.args.s.now l.b-index l.found (omega arith) refl c.either-found.ensures

pub returns : goal.returns
returns c = let l = c.loop-b in sym (l.invariant ∙ holds_end c.args.c c.args.s.now l.b-index l.found (omega arith))
