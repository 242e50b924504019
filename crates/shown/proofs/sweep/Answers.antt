-- `sweep` meets its contract.
use Rattle.std.proofs.Common.{refl, ◌∙◌}
use Rattle.shown.proofs.Laws.{flag_is}
use Rattle.shown.proofs.sweep.Goals as goal

pub returns : goal.returns
returns c = record { swept = c.sweep-r.result; kept = c.sweep-r.ensures; used = refl; remain = c.from.ensures ∙ flag_is _ }
