-- Where no move is due, drivers and guest masks are the reference model's.
-- Assumes nothing.
use Prim.Native.Nat.{ℕ, ◌+◌, ◌*◌, ◌/◌, ◌<◌}
use native.Mathlib.Omega.{arith}
use mathlib.Core.Bool.{Bool, cond, not, ◌&&◌}
use mathlib.Core.Path.{◌≡◌, refl, ap, ap₂, subst, ◌∙◌}
use lib.Dec.{leb}
use Rattle.mask.specs.Bits.{both, either}
use Rattle.mask.proofs.Laws.{some_cong}
use Rattle.rules.specs.declared.Driver.{Driver}
use Rattle.rules.specs.declared.Driver.TheVariants.{Unbound, Host, Passthrough}
use Rattle.rules.specs.declared.Moved.{Moved}
use Rattle.rules.specs.declared.Moved.TheVariants.{Idle, Released, BoundHost, BoundPassthrough}
use Rattle.rules.specs.State.{Device, State, queues}
use Rattle.rules.specs.Queues.{target_of, target, moved, move_answer, move, remaining, reserved, configured, passed, guest_domains, guest_adapters, guest_controls, Settled}
use Rattle.rules.proofs.Products.{queue_apid, queue_below, in_product_lem}
use Rattle.rules.proofs.Moves.{spent, idle_spent, busy_spent, remaining_move}
use Rattle.model.specs.Demand3.{Follows}
use Rattle.model.specs.Model as Model
use Rattle.model.proofs.Agreement.{erase}

-- an answer that stands for a move is not idle
busy : (m : Moved) → spent m ≡ 1 → m ≡ Idle → ⊥
busy m b e = omega (arith, idle_spent m e)

-- a move is idle only where the driver is the target
idle_target : (d t : Driver) → moved d t ≡ Idle → d ≡ t
unfolding spent
idle_target Unbound Unbound e = refl
idle_target Unbound Host e = absurd (busy BoundHost refl e)
idle_target Unbound Passthrough e = absurd (busy BoundPassthrough refl e)
idle_target Host Unbound e = absurd (busy Released refl e)
idle_target Host Host e = refl
idle_target Host Passthrough e = absurd (busy Released refl e)
idle_target Passthrough Unbound e = absurd (busy Released refl e)
idle_target Passthrough Host e = absurd (busy Released refl e)
idle_target Passthrough Passthrough e = refl

-- the target of a pair is the model's driver
target_driver : (s : State) (a d : ℕ) → d < 256 → target s (a * 256 + d) ≡ Model.driver (erase s) a d
unfolding target_of configured reserved Model.driver Model.reserved erase
target_driver s a d h =
    ap₂ (λ (x y : Bool). cond x (cond y Host (cond (leb 10 (s.config.types ((a * 256 + d) / 256))) Passthrough Unbound)) Unbound)
    (in_product_lem s.config.adapters s.config.domains a d h) (in_product_lem s.host.apmask s.host.aqmask a d h)
    ∙ ap (λ (x : ℕ). cond (s.config.adapters a && s.config.domains d) (cond (s.host.apmask a && s.host.aqmask d) Host (cond (leb 10 (s.config.types x)) Passthrough Unbound)) Unbound)
    (queue_apid a d h)

passes_same : (d : Driver) → passed d ≡ Model.passes d
unfolding passed Model.passes
passes_same Unbound = refl
passes_same Host = refl
passes_same Passthrough = refl

module _ (s : State) (still : Settled s) where
  driver_same : (a d : ℕ) → a < 256 → d < 256 → s.driver (a * 256 + d) ≡ Model.driver (erase s) a d
  unfolding Settled move_answer
  driver_same a d la ld =
      idle_target (s.driver (a * 256 + d)) (target s (a * 256 + d)) (still (a * 256 + d) (queue_below a d la ld)) ∙ target_driver s a d ld

  adapters_same : (v : Device) (a : ℕ) → a < 256 → guest_adapters s v a ≡ Model.guest_adapters (erase s) v a
  unfolding guest_adapters guest_domains both Model.guest_adapters Model.guest_domains erase
  adapters_same v a la =
      ap (λ (b : Bool). v.adapters a && s.config.adapters a && not b)
      (some_cong 256 (λ d. (v.domains d && s.config.domains d) && not (passed (s.driver (a * 256 + d))))
      (λ d. (v.domains d && s.config.domains d) && not (Model.passes (Model.driver (erase s) a d)))
      (λ d ld. ap (λ (b : Bool). (v.domains d && s.config.domains d) && not b)
      (ap passed (driver_same a d la ld) ∙ passes_same (Model.driver (erase s) a d))))

  -- the drivers and the guest masks
  pub follows : Follows s (erase s)
  unfolding guest_domains guest_controls both either Model.guest_domains Model.guest_controls erase
  follows =
      record {
        drivers = driver_same;
        guest_adapters = λ p a lp la. adapters_same (s.device p) a la;
        guest_domains = λ p d lp ld. refl;
        guest_controls = λ p d lp ld. refl;
      }

-- a move, due or idle
pub due_move_lem : (s : State) (q : ℕ) → q < queues → (move_answer q s ≡ Idle → ⊥) → remaining (move q s) + 1 ≡ remaining s
due_move_lem s q h n = subst (λ (x : ℕ). remaining (move q s) + x ≡ remaining s) (busy_spent (move_answer q s) n) (remaining_move q s h)

pub idle_move_lem : (s : State) (q : ℕ) → q < queues → move_answer q s ≡ Idle → remaining (move q s) ≡ remaining s
idle_move_lem s q h e =
    let r : remaining (move q s) + 0 ≡ remaining s = subst (λ (x : ℕ). remaining (move q s) + x ≡ remaining s) (idle_spent (move_answer q s) e) (remaining_move q s h) in
    omega arith
