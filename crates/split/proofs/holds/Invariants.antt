-- `holds` meets its contract. The invariant: the byte occurs where it was found, or among the bytes from here on.
use Rattle.std.proofs.Common.{◌≡◌, ◌||◌, drop}
use Rattle.split.specs.Cut.{holds}
use Rattle.split.proofs.holds.Given as goal

abbrev pub invariant-loop-b : goal.invariant-loop-b
invariant-loop-b l = holds l.c l.s ≡ (l.found || holds l.c (drop l.b-index l.s))
