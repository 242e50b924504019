-- `put_line` meets its contract: the line is copied.
use native.Mathlib.Omega.{arith}
use mathlib.Core.Path.{◌∙◌}
use Rattle.copy.proofs.Laws.{copied_as}
use Rattle.controllist.proofs.Laws.{line_long}
use Rattle.controllist.proofs.put_line.Goals as goal

pub returns : goal.returns
returns c =
    let l = c in
    let a = l.args in
    c.copy.ensures ∙ copied_as a.text.now a.at 5 l.line-line.ensures (line_long a.domain) (omega arith)
