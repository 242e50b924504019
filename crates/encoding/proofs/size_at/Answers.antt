-- `size_at` meets its contract: what is left at the index has no header, no whole step, or one.
use native.Mathlib.Omega.{arith}
use mathlib.Core.Path.{ap, ◌∙◌}
use Rattle.encoding.proofs.Laws.{sized, none_left, part_left, whole_left, left_is, past}
use Rattle.encoding.proofs.size_at.Goals as goal

pub returns-in_err-left : goal.returns-in_err-left
returns-in_err-left c =
    c.from_residual.ensures ∙ past c.args.bytes.now c.args.at (omega (arith, c.in_err-left.ensures.lookup.0))

pub returns-then-left-lt-HEADER : goal.returns-then-left-lt-HEADER
returns-then-left-lt-HEADER c = none_left _ (omega arith) ∙ ap sized (left_is c.args.bytes.now c.args.at c.in_ok-left.ensures.lookup.0.2)

pub returns-then-left-size : goal.returns-then-left-size
returns-then-left-size c = part_left _ (omega arith) (omega arith) ∙ ap sized (left_is c.args.bytes.now c.args.at c.in_ok-left.ensures.lookup.0.2)

pub returns-else-left-size : goal.returns-else-left-size
returns-else-left-size c = whole_left _ (omega arith) (omega arith) ∙ ap sized (left_is c.args.bytes.now c.args.at c.in_ok-left.ensures.lookup.0.2)
