-- Whether queues can be added to a device.
-- The rules: RULES.md, "Commands".
-- Assumes nothing.
use Rattle.std.specs.Prelude.{Ok, Err, ℕ, List, ◌≡◌}
use Rattle.errno.specs.Outcome.{Outcome, granted, refused}
use Rattle.mask.specs.Bits.{Bits}
use Rattle.rules.specs.State.{State}
use Rattle.rules.specs.Commands.{Answer, adding}
use Rattle.layout.specs.Layout.{state_in}
use Rattle.layout.specs.Lent.{Lent}

-- the answer that an outcome comes to
abbrev pub answer_of : Outcome State → Answer
answer_of (granted s) = Ok tt
answer_of (refused e) = Err e

-- whether some queues can be added to the device at slot p: EADDRNOTAVAIL, then EADDRINUSE, whatever drivers and next state
abbrev pub Admits : Bits → ℕ → Lent → Answer → Type 0
Admits new p words r = (qs : List ℕ) (t : State) → r ≡ answer_of (adding new p (state_in words.now qs) t)
