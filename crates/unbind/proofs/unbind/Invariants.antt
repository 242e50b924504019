-- The loop's invariant: the queues of the adapters passed are unbound where they are configured no more.
use Rattle.std.proofs.Common.{◌≡◌, ◌*◌}
use Rattle.layout.specs.Layout.{unbind}
use Rattle.unbind.specs.Gone.{gone}
use Rattle.unbind.proofs.unbind.Given as goal

abbrev pub invariant-loop-adapter : goal.invariant-loop-adapter
invariant-loop-adapter l = l.drivers ≡ unbind l.initial.drivers (gone l.was l.is) (l.adapter * 256)
