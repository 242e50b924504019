-- `hex_mask` meets its contract: one digit more, or a byte that is none.
use Rattle.std.proofs.Common.{◌≡◌, ℕ, ◌<◌, ◌∙◌, sym, ap, ap₂, arith, rules, true, false, get_or}
use Rattle.std.proofs.lemmas.Bool.Decides.{nat_tests}
use Rattle.std.proofs.lemmas.Grind.{common_steps}
use lib.Dec.{ltb}
use borrow.Author.Tests.{lt-ltb}
use Rattle.mask.specs.Bits.{Bits, bits, either, group}
use Rattle.digits.specs.Digits.{digit_of, digit_found}
use Rattle.masktext.specs.Text.{outcome, hex_mask, all_hex}
use Rattle.masktext.proofs.Laws.{passed, all_hex_turn, bits_none, hex_turn}
use Rattle.masktext.proofs.hex_mask.Goals as goal

pub loop-i-init : goal.loop-i-init
loop-i-init c = record { digits = search rules; shown = c.empty-m.ensures ∙ sym (bits_none 4) }

pub returns-in_err-d : goal.returns-in_err-d
unfolding outcome hex_mask digit_found
returns-in_err-d c =
    let s = c.args.s.now in
    let i = c.loop-i.i in
    let other : ltb (digit_of (get_or s i 0)) 16 ≡ false = grind (arith, nat_tests) in
    let none : all_hex s ≡ false = c.loop-i.invariant.digits ∙ all_hex_turn s i (omega arith) ∙ rw other in
    rw (passed _ _ c.from_residual.ensures.1) (grind (arith, nat_tests))

pub loop-i-preserved : goal.loop-i-preserved
unfolding digit_found
loop-i-preserved c =
    let s = c.args.s.now in
    let i = c.loop-i.i in
    let small : digit_of (get_or s i 0) < 16 = grind (arith, nat_tests) in
    let right : ltb (digit_of (get_or s i 0)) 16 ≡ true = lt-ltb _ _ small in
    let value : c.in_ok-d.d ≡ digit_of (get_or s i 0) = grind (arith, nat_tests) in
    record {
      digits = c.loop-i.invariant.digits ∙ all_hex_turn s i (omega arith) ∙ rw right;
      shown = c.with_nibble-m.ensures ∙ ap₂ (λ (g v : ℕ). either (bits c.loop-i.m) (group 4 g v)) (omega arith) (omega arith)
          ∙ ap (λ (b : Bits). either b (group 4 i (digit_of (get_or s i 0)))) c.loop-i.invariant.shown ∙ sym (hex_turn s i (omega arith));
    }

pub returns-then-is_empty : goal.returns-then-is_empty
unfolding outcome hex_mask
returns-then-is_empty c = grind (arith, common_steps)

pub returns : goal.returns
unfolding outcome hex_mask all_hex
returns c = grind (arith, common_steps)
