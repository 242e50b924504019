-- `bytes` meets its contract. The invariant: what is found of the text up to byte i.
use native.Mathlib.Omega.{arith}
use mathlib.Core.Path.{refl, ap, ◌∙◌}
use Rattle.errno.specs.Outcome.{refused, outcome}
use Rattle.errno.proofs.Outcomes.{passed}
use Rattle.hexbytes.proofs.Laws.{other_length, bad_high, bad_low, goes_on, full}
use Rattle.hexbytes.proofs.bytes.Goals as goal

pub returns-then-s : goal.returns-then-s
unfolding outcome
returns-then-s g c = other_length _ _ (λ e. absurd (c.if-s.true (omega arith)))

pub returns-then-s-ne0 : goal.returns-then-s-ne0
unfolding outcome
returns-then-s-ne0 g c = other_length _ _ (λ e. absurd (c.if-s-ne0.true (omega arith)))

pub returns-in_err-high : goal.returns-in_err-high
unfolding outcome
returns-in_err-high g c =
    rw (passed _ _ c.from_residual.ensures.1)
    (ap refused c.in_err-high.ensures.0 ∙ bad_high c.loop-i.invariant (omega arith) refl (omega (arith, c.in_err-high.ensures.1)))

pub returns-in_err-low : goal.returns-in_err-low
unfolding outcome
returns-in_err-low g c =
    rw (passed _ _ c.from_residual-in_err-low.ensures.1)
    (ap refused c.in_err-low.ensures.0
    ∙ bad_low c.loop-i.invariant (omega arith) c.in_ok-high.ensures.0 refl (omega (arith, c.in_ok-high.ensures.1)) (omega (arith, c.in_err-low.ensures.1)))

pub loop-i-preserved : goal.loop-i-preserved
loop-i-preserved g c =
    goes_on c.loop-i.invariant (omega arith) c.in_ok-high.ensures.0 c.in_ok-low.ensures.0 (omega (arith, c.in_ok-high.ensures.1))
    (omega (arith, c.in_ok-low.ensures.1))

pub returns : goal.returns
unfolding outcome
returns g c = full c.loop-i.invariant (omega arith)
