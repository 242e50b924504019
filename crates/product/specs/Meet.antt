-- The queues of a product; a product by its masks and its queues; when two sets of queues meet; the queues of one adapter.
-- The rules: RULES.md, "Commands".
-- Assumes nothing.
use Rattle.std.specs.Prelude.{ℕ, ◌+◌, ◌*◌, ◌<◌, Bool, true, ◌≡◌, ◌↔◌}
use Rattle.mask.specs.Bits.{Bits, bits}
use Rattle.rules.specs.State.{in_product, queues}
use Rattle.product.specs.declared.Product.{Product}

-- the queues of a product
abbrev pub queues_of : Product → Bits
queues_of p = in_product (bits p.adapters) (bits p.domains)

-- p has the adapters a and the domains d, and its queues are qs
pub record ProductOf (a d qs : Bits) (p : Product) : Type 0 where
  pub adapters : bits p.adapters ≡ a
  pub domains : bits p.domains ≡ d
  pub members : queues_of p ≡ qs

-- r is yes exactly when some queue is in both a and b
pub record Meet (a b : Bits) (r : Bool) : Type 0 where
  pub exactly : (r ≡ true) ↔ ((q : ℕ) × (q < queues) × (a q ≡ true) × (b q ≡ true))

-- m has just the domains whose queue with adapter a is one of the queues qs
abbrev pub Row : Bits → ℕ → Bits → Type 0
Row qs a m = (d : ℕ) → d < 256 → m d ≡ qs (a * 256 + d)
