-- The loop's invariant: of the adapter's queues passed, those of the domains are unbound.
use Rattle.std.proofs.Common.{◌≡◌}
use Rattle.unbind.specs.Gone.{with_domain, unbind_row}
use Rattle.unbind.proofs.unbind_domains.Given as goal

abbrev pub invariant-loop-n : goal.invariant-loop-n
invariant-loop-n l = l.drivers ≡ unbind_row l.initial.drivers (with_domain l.domains) l.adapter.0 l.n
