-- The invariant of `bytes`: what is found of the text up to byte i.
use Rattle.hexbytes.proofs.Laws.{Sofar}
use Rattle.hexbytes.proofs.bytes.Given as goal

abbrev pub invariant-loop-i : goal.invariant-loop-i
invariant-loop-i g l = Sofar l.s l.byte-items g.row.N l.i
