-- `to_bytes` meets its contract. The invariant: the first bytes are those of the bits.
use Rattle.std.proofs.Common.{◌≡◌, ◌*◌, length, take}
use Rattle.mask.specs.Bits.{bits, numbers}
use Rattle.maskbytes.proofs.to_bytes.Given as goal

abbrev pub invariant-loop-q : goal.invariant-loop-q
invariant-loop-q l = record { long : length l.out ≡ 32; done : take (8 * l.q) l.out ≡ numbers 8 (8 * l.q) (bits l.fn.m) 0 }
