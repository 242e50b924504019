-- The loop's invariant: the bytes are those after the moves made.
use Rattle.std.proofs.Common.{◌≡◌}
use Rattle.rules.specs.State.{apqn}
use Rattle.sweep.specs.Sweeps.{moves_bytes}
use Rattle.sweep.proofs.settle.Given as goal

abbrev pub invariant-loop : goal.invariant-loop
invariant-loop l = l.drivers ≡ moves_bytes l.words l.counter (apqn l.queue.adapter l.queue.domain) l.initial.drivers
