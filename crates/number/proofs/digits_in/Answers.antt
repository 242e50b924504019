-- `digits_in` meets its contract: a byte that is refused ends the text.
use Rattle.std.proofs.Common.{◌≡◌, ◌+◌, ◌∙◌, sym, ap, arith, get_or, drop}
use Rattle.errno.specs.Outcome.{outcome, refused}
use Rattle.std.proofs.lemmas.Grind.{common_steps}
use Rattle.number.specs.Text.{digits, digits_after, at_most}
use Rattle.errno.proofs.Outcomes.{passed}
use Rattle.number.proofs.Laws.{one_more, and_digits, turn_at}
use Rattle.number.proofs.digits_in.Goals as goal

pub returns-in_err-v : goal.returns-in_err-v
unfolding outcome and_digits
returns-in_err-v c =
    let a = c.args in
    let l = c.loop-c in
    let bad : one_more a.limit a.base l.v (get_or a.s.now l.c-index 0) ≡ refused c.in_err-v.field-0.0 = sym c.in_err-v.ensures in
    passed _ _ c.from_residual.ensures.1
    ∙ sym (l.invariant.rest ∙ turn_at a.limit a.base l.v l.c-index a.s.now (omega arith) ∙ ap (and_digits a.limit a.base (drop (l.c-index + 1) a.s.now)) bad)

pub returns-then-is_empty : goal.returns-then-is_empty
unfolding outcome at_most digits
returns-then-is_empty c = grind (arith, common_steps)

pub loop-c-init : goal.loop-c-init
unfolding digits
loop-c-init c = grind (arith, common_steps)

pub loop-c-preserved : goal.loop-c-preserved
unfolding outcome at_most digits_after
loop-c-preserved c = grind (arith, common_steps)

pub returns : goal.returns
unfolding outcome at_most digits_after
returns c = grind (arith, common_steps)
