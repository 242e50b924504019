-- A queue's target by what is asked of it.
-- Assumes nothing.
use Prim.Native.Nat.{ℕ, ◌+◌, ◌*◌, ◌<◌}
use mathlib.Core.Path.{◌≡◌, sym, ap, ap₂, ◌∙◌}
use mathlib.Core.Bool.{Bool, cond}
use lib.Dec.{leb}
use Rattle.rules.specs.declared.Driver.TheVariants.{Unbound, Host, Passthrough}
use Rattle.rules.specs.State.{HostMasks, Config}
use Rattle.rules.specs.Queues.{reserved, configured, target_of}
use Rattle.rules.proofs.Products.{queue_apid}

-- the target, by the tests of whether the queue is configured and reserved
pub target_by : (h : HostMasks) (c : Config) (a d : ℕ) → d < 256 → (x y : Bool) → x ≡ configured c (a * 256 + d) → y ≡ reserved h (a * 256 + d)
    → cond x (cond y Host (cond (leb 10 (c.types a)) Passthrough Unbound)) Unbound ≡ target_of h c (a * 256 + d)
unfolding target_of
target_by h c a d l x y p q =
    ap₂ (λ (u v : Bool). cond u (cond v Host (cond (leb 10 (c.types a)) Passthrough Unbound)) Unbound) p q
    ∙ ap (λ (k : ℕ). cond (configured c (a * 256 + d)) (cond (reserved h (a * 256 + d)) Host (cond (leb 10 (c.types k)) Passthrough Unbound)) Unbound) (sym (queue_apid a d l))
