-- `lines` meets its contract. The invariant: what the whole comes to is what was done, and what the lines from `at` on come to.
use Prim.Native.Nat.{◌-◌}
use lib.ListN.{length}
use Rattle.layout.specs.Carried.{memory}
use Rattle.feed.proofs.Laws.{Sofar}
use Rattle.feed.proofs.lines.Given as goal

abbrev pub invariant-loop-line : goal.invariant-loop-line
invariant-loop-line l = Sofar l.part l.from l.w l.initial.out l.out (memory l.initial.words l.initial.drivers) (memory l.words l.drivers) l.at l.written

abbrev pub decreases-loop-line : goal.decreases-loop-line
decreases-loop-line l = length l.part - l.at
