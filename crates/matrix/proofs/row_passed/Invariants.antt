-- The loop's invariant: no queue of a domain that it passed holds the adapter back.
use Rattle.std.proofs.Common.{ℕ, ◌<◌, ◌≡◌, false}
use Rattle.mask.specs.Bits.{bits}
use Rattle.matrix.specs.Row.{missing}
use Rattle.matrix.proofs.row_passed.Given as goal

abbrev pub invariant-loop-n : goal.invariant-loop-n
invariant-loop-n l = (k : ℕ) → k < l.n → missing l.drivers (bits l.domains) l.adapter.0 k ≡ false
