-- `usable` meets its contract.
use Rattle.std.proofs.Common.{◌∙◌}
use Rattle.rules.specs.State.{apqn}
use Rattle.guest.proofs.Laws.{usable_found, usable_nowhere}
use Rattle.guest.proofs.usable.Goals as goal

pub returns-in-None : goal.returns-in-None
returns-in-None c =
    let a = c.args in
    usable_nowhere a.words.now a.drivers.now a.id (apqn a.queue.adapter a.queue.domain) c.in-None.ensures

pub returns-in-Some : goal.returns-in-Some
returns-in-Some c =
    let a = c.args in
    c.usable_at.ensures ∙ usable_found a.words.now a.drivers.now a.id (apqn a.queue.adapter a.queue.domain) c.in-Some.ensures
