-- `row_passed` meets its contract.
use native.Mathlib.Omega.{arith}
use mathlib.Core.Path.{sym, ap, ◌∙◌}
use mathlib.Core.Bool.{not}
use borrow.Author.Count.{below_more}
use Rattle.mask.specs.Bits.{bits}
use Rattle.mask.proofs.Laws.{some_intro, none_some}
use Rattle.matrix.specs.Row.{missing, held_back}
use Rattle.matrix.proofs.row_passed.Goals as goal

pub returns-then-missing : goal.returns-then-missing
unfolding held_back
returns-then-missing c =
    let a = c.args in
    ap not (sym (some_intro 256 (missing a.drivers.now (bits a.domains) a.adapter.0) c.loop-n.n (omega arith)
    (sym c.missing.ensures ∙ c.if-missing.true)))

pub loop-n-preserved : goal.loop-n-preserved
loop-n-preserved c = below_more _ _ c.loop-n.invariant (sym c.missing.ensures ∙ c.if-missing.false)

pub returns : goal.returns
unfolding held_back
returns c =
    let a = c.args in
    ap not (sym (none_some 256 (missing a.drivers.now (bits a.domains) a.adapter.0) (λ k h. c.loop-n.invariant k (omega arith))))
