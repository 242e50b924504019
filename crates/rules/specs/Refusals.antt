-- Demand 2's sentence (RULES.md, "Refusals"): when an assignment is refused.
-- Assumes nothing.
use Rattle.std.specs.Prelude.{ℕ, ◌≤◌, ◌<◌, true, List, ◌≡◌, ◌↔◌, ◌⊎◌}
use Rattle.errno.specs.Outcome.{granted}
use Rattle.number.specs.Text.{number_text}
use Rattle.rules.specs.declared.Id.{Id}
use Rattle.rules.specs.declared.Kind.{Kind}
use Rattle.rules.specs.State.{Limits, HostMasks, Devices, slots, queues}
use Rattle.rules.specs.Queues.{reserved}
use Rattle.rules.specs.Commands.{Answer, answered, slot_of, limit_of, adds, assigned_elsewhere}

-- a queue that number n would add to the product of the device at slot p is reserved for the host or assigned to another device
unfoldable pub Clash : Kind → ℕ → ℕ → HostMasks → Devices → Type 0
Clash k n p h vs =
    (q : ℕ) × (q < queues) × (adds k n (vs p) q ≡ true) × ((reserved h q ≡ true) ⊎ (assigned_elsewhere p vs q ≡ true))

-- a number within its limit, for a known device: the answer is a refusal exactly when there is such a queue
unfoldable pub NumberRefusedExactly : Kind → Id → ℕ → Limits → HostMasks → Devices → Answer → Type 0
NumberRefusedExactly k i n l h vs r =
    slot_of i vs < slots → n ≤ limit_of k l → (answered r ≡ 0 → ⊥) ↔ Clash k n (slot_of i vs) h vs

-- the same of a good text's number
unfoldable pub RefusedExactly : Kind → Id → List ℕ → Limits → HostMasks → Devices → Answer → Type 0
RefusedExactly k i text l h vs r = (n : ℕ) → number_text text ≡ granted n → NumberRefusedExactly k i n l h vs r
