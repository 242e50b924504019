-- The targets of the queues of one adapter, as two sets of domains.
-- The rules: RULES.md, "Target".
-- Assumes nothing.
use Rattle.std.specs.Prelude.{ℕ, ◌+◌, ◌*◌, ◌<◌, Bool, true, false, cond, ◌≡◌}
use Rattle.mask.specs.Bits.{bits}
use Rattle.rules.specs.declared.Driver.{Driver}
use Rattle.rules.specs.declared.Driver.TheVariants.{Unbound, Host, Passthrough}
use Rattle.rules.specs.State.{HostMasks, Config}
use Rattle.rules.specs.Queues.{target_of, passed}
use Rattle.targetrow.specs.declared.TargetRow.{TargetRow}

-- bound to host
unfoldable pub hosted : Driver → Bool
hosted Unbound = false
hosted Host = true
hosted Passthrough = false

-- of the queues of adapter a: the domains of just those whose target is the host, and of just those whose target is passthrough
pub record TargetsOf (h : HostMasks) (c : Config) (a : ℕ) (r : TargetRow) : Type 0 where
  pub host : (d : ℕ) → d < 256 → bits r.host d ≡ hosted (target_of h c (a * 256 + d))
  pub passthrough : (d : ℕ) → d < 256 → bits r.passthrough d ≡ passed (target_of h c (a * 256 + d))

-- the target that a row has for domain d
abbrev pub row_target : TargetRow → ℕ → Driver
row_target r d = cond (bits r.host d) Host (cond (bits r.passthrough d) Passthrough Unbound)
