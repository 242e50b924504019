-- What is read of a slot, by its words; past the last slot all are 0.
-- Assumes nothing.
use Rattle.std.proofs.Common.{◌≡◌, ℕ, ◌+◌, refl, ap, add-zero, Bool, true, false, cond, List, get_or}
use Rattle.rules.specs.State.{no_device}
use Rattle.layout.specs.Layout.{device_at, flag}
use Rattle.layout.proofs.Laws.{device_there}

module _ (ws : List ℕ) (p : ℕ) where
  pub present_read : (there : Bool) → flag (cond there (get_or ws (device_at p + 0) 0) 0) ≡ (cond there (device_there ws p) no_device).present
  unfolding flag no_device
  present_read true = ap (λ (k : ℕ). flag (get_or ws k 0)) (add-zero (device_at p))
  present_read false = refl

  pub open_read : (there : Bool) → flag (cond there (get_or ws (device_at p + 1) 0) 0) ≡ (cond there (device_there ws p) no_device).is_open
  unfolding flag no_device
  open_read true = refl
  open_read false = refl

  pub id_read : (there : Bool)
      → record { hi = cond there (get_or ws (device_at p + 2) 0) 0; lo = cond there (get_or ws (device_at p + 3) 0) 0 }
      ≡ (cond there (device_there ws p) no_device).id
  unfolding no_device
  id_read true = refl
  id_read false = refl
