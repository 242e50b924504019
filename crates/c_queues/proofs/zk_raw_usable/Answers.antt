-- `zk_raw_usable` meets its contract.
use mathlib.Core.Path.{ap, ◌∙◌}
use Rattle.shown.specs.Shown.{bit}
use Rattle.shown.proofs.Laws.{flag_is}
use Rattle.c_queues.proofs.zk_raw_usable.Goals as goal

pub returns : goal.returns
returns c =
    c.from.ensures ∙ flag_is _ ∙ ap bit (rw (c.id_of-id.ensures, c.new.ensures.adapter, c.new.ensures.domain) at c.usable.ensures)
