-- `configured` meets its contract: it configures by the configuration of the bytes.
use mathlib.Core.Path.{sym, ap}
use Rattle.model.specs.Steps.{configure, rule}
use Rattle.calls.specs.Calls.{effect, configures}
use Rattle.request.proofs.Laws.{obeyed}
use Rattle.request.proofs.configured.Goals as goal

pub returns : goal.returns
unfolding rule effect
returns c =
    let g = c.configuration_of in
    obeyed (ap configure (sym g.ensures)) c.configure.ensures
    (configures g.result c.configure.result c.configure.ensures)
