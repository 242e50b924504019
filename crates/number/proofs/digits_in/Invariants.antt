-- `digits_in` meets its contract. The invariant: the digits left, after the value so far, give the answer for all of them.
use Rattle.std.proofs.Common.{◌≡◌, ◌≤◌, drop}
use Rattle.number.specs.Text.{at_most, digits, digits_after}
use Rattle.number.proofs.digits_in.Given as goal

abbrev pub invariant-loop-c : goal.invariant-loop-c
invariant-loop-c l = record {
  small : l.v ≤ l.limit;
  rest : at_most l.limit (digits l.base l.s) ≡ at_most l.limit (digits_after l.base l.v (drop l.c-index l.s));
}
