-- The loop's invariant: of the adapters that it passed, those that are held back are dropped.
use Rattle.std.proofs.Common.{ℕ, ◌≡◌, not, ◌&&◌}
use lib.Dec.{ltb}
use Rattle.mask.specs.Bits.{bits}
use Rattle.matrix.specs.Row.{held_back}
use Rattle.matrix.proofs.passed_adapters.Given as goal

abbrev pub invariant-loop-adapter : goal.invariant-loop-adapter
invariant-loop-adapter l = (j : ℕ) → bits l.m j ≡ (bits l.initial.m j && not (ltb j l.adapter && held_back l.drivers (bits l.domains) j))
