-- `kept_adapter` meets its contract where it drops the adapter.
use mathlib.Core.Path.{◌≡◌, sym, ◌∙◌, fun_ext}
use mathlib.Core.Bool.{true}
use borrow.Author.Tests.{not-false}
use Rattle.mask.specs.Bits.{bits, excluded}
use Rattle.matrix.specs.Row.{held_back}
use Rattle.matrix.proofs.Laws.{dropped}
use Rattle.matrix.proofs.kept_adapter.Goals as goal

pub returns-then-not-row_passed : goal.returns-then-not-row_passed
unfolding excluded
returns-then-not-row_passed c =
    let a = c.args in
    let held = held_back a.drivers.now (bits a.domains) in
    let back : held a.adapter.0 ≡ true = not-false _ (sym c.row_passed.ensures ∙ c.if-not-row_passed.true) in
    c.without.ensures ∙ fun_ext (dropped (bits a.mask) held a.adapter.0 back)
