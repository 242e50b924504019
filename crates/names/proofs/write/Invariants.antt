-- The loop's invariant: each place that it passed has its byte of the name, or a zero.
use Rattle.std.proofs.Common.{◌≡◌, ℕ, ◌<◌, length, get_or}
use Rattle.names.proofs.write.Given as goal

abbrev pub invariant-loop-i : goal.invariant-loop-i
invariant-loop-i l = (length l.out ≡ 14) × ((j : ℕ) → j < l.i → get_or l.out j 0 ≡ get_or l.name j 0)
