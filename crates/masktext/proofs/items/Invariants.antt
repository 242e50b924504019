-- `items` meets its contract. The invariant: the items so far give the mask so far.
use Rattle.std.proofs.Common.{◌≡◌, length, take}
use Rattle.errno.specs.Outcome.{granted}
use Rattle.mask.specs.Bits.{bits}
use Rattle.masktext.specs.Text.{items, parts}
use Rattle.masktext.proofs.items.Given as goal

abbrev pub invariant-loop-part : goal.invariant-loop-part
invariant-loop-part l = items (bits l.fn.old) (take (length l.yielded) (parts l.s)) ≡ granted (bits l.m)
