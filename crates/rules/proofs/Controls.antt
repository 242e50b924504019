-- What follows for the control mask of a guest.
-- Assumes nothing.
use mathlib.Core.Bool.{Bool, true, false, ◌&&◌, and-false, or-true, false≢true}
use mathlib.Core.Path.{◌≡◌, refl}
use Rattle.mask.specs.Bits.{both, either}
use Rattle.rules.specs.State.{State, Device}
use Rattle.rules.specs.Queues.{guest_domains, guest_controls, ControlRule}

and_left : (a b : Bool) → (a && b) ≡ true → a ≡ true
and_left true b e = refl
and_left false b e = absurd (false≢true e)

and_right : (a b : Bool) → (a && b) ≡ true → b ≡ true
and_right true b e = e
and_right false b e = absurd (false≢true e)

-- in every state, of every device
pub control_rule : (s : State) (v : Device) → ControlRule s v (guest_controls s v)
unfolding guest_domains guest_controls both either
control_rule s v =
    record {
      usage = λ d e. simp (and_left (v.domains d) (s.config.domains d) e, and_right (v.domains d) (s.config.domains d) e, or-true);
      unassigned = λ d p q. simp (p, q);
      unconfigured = λ d p q. simp (p, q, and-false);
    }
