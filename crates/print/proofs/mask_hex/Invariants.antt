-- The loop's invariant: sixteen digits of each word that it passed.
use Rattle.std.proofs.Common.{◌≡◌, ◌*◌}
use Rattle.print.proofs.mask_hex.Given as goal

abbrev pub invariant-loop-word : goal.invariant-loop-word
invariant-loop-word g l = l.n ≡ 16 * l.word-index
