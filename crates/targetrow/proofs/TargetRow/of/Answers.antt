-- `of` meets its contract: from the rows of what is configured and of what is reserved, by the hardware type.
use native.Mathlib.Omega.{arith}
use mathlib.Core.Bool.{Bool, true, false, cond, not, ◌&&◌}
use mathlib.Core.Path.{◌≡◌, sym}
use lib.Dec.{leb}
use borrow.Author.Tests.{le-leb, lt-leb}
use Rattle.mask.specs.declared.Mask.{Mask}
use Rattle.mask.specs.Bits.{bits, no_bits}
use Rattle.layout.specs.Lent.{host, config}
use Rattle.product.proofs.Laws.{row_test}
use Rattle.targetrow.specs.TargetRows.{TargetsOf}
use Rattle.targetrow.proofs.Laws.{targets_of}
use Rattle.targetrow.proofs.TargetRow.of.Goals as goal
use Rattle.targetrow.proofs.TargetRow.of.Goals.{After-and-host}

-- the row that is made, by the test of the type and the mask of what is passed through
made : (c : After-and-host) (t : Bool) (m : Mask) →
    let a = c.args in
    t ≡ leb 10 ((config a.words).types a.adapter.0)
    → bits m ≡ cond t (λ i. bits c.row-configured.result i && not (bits c.row-reserved.result i)) no_bits
    → TargetsOf (host a.words) (config a.words) a.adapter.0 record { host = c.and-host.result; passthrough = m }
made c t m e f =
    let a = c.args in
    targets_of (host a.words) (config a.words) a.adapter.0
    (row_test a.adapter.0 c.row-configured.ensures c.configured.ensures.members)
    (row_test a.adapter.0 c.row-reserved.ensures c.reserved.ensures.members)
    _ t e c.and-host.ensures f

pub returns-then-hardware_type-lt-LOWEST_PASSED_TYPE : goal.returns-then-hardware_type-lt-LOWEST_PASSED_TYPE
returns-then-hardware_type-lt-LOWEST_PASSED_TYPE c =
    let a = c.args in
    made (goal.at.returns-then-hardware_type-lt-LOWEST_PASSED_TYPE c).After-and-host false _
    (sym (lt-leb 10 ((config a.words).types a.adapter.0) (omega (arith, c.hardware_type.ensures)))) c.empty-passthrough.ensures

pub returns-else-hardware_type-lt-LOWEST_PASSED_TYPE : goal.returns-else-hardware_type-lt-LOWEST_PASSED_TYPE
returns-else-hardware_type-lt-LOWEST_PASSED_TYPE c =
    let a = c.args in
    made (goal.at.returns-else-hardware_type-lt-LOWEST_PASSED_TYPE c).After-and-host true _
    (sym (le-leb 10 ((config a.words).types a.adapter.0) (omega (arith, c.hardware_type.ensures)))) c.minus-passthrough.ensures
