-- `hex_mask` meets its contract. The invariant: the digits before i are hex digits, and the mask has their bits.
use Rattle.std.proofs.Common.{◌≡◌, map, take, drop}
use Rattle.mask.specs.Bits.{bits, bit_at}
use Rattle.digits.specs.Digits.{digit_of}
use Rattle.masktext.specs.Text.{all_hex}
use Rattle.masktext.proofs.hex_mask.Given as goal

abbrev pub invariant-loop-i : goal.invariant-loop-i
invariant-loop-i l = record {
  digits : all_hex l.s ≡ all_hex (drop l.i l.s);
  shown : bits l.m ≡ bit_at 4 (map digit_of (take l.i l.s));
}
