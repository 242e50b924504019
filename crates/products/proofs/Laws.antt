-- A device's product by a test of whether it is there.
-- Assumes nothing.
use Prim.Native.Nat.{ℕ}
use mathlib.Core.Bool.{Bool, true, false, ◌&&◌}
use mathlib.Core.Path.{◌≡◌, sym, ap₂, ◌∙◌}
use Rattle.mask.specs.Bits.{Bits, bits, no_bits}
use Rattle.rules.specs.State.{Device, in_product}
use Rattle.rules.specs.Commands.{product}
use Rattle.product.specs.declared.Product.{Product}
use Rattle.product.specs.Meet.{ProductOf}
use Rattle.products.specs.Products.{if_present, AssignedProduct}

module _ (v : Device) {x : Bool} (present : x ≡ v.present) where
  by_test : {b : Bool} (m : Bits) → x ≡ b → (λ (i : ℕ). b && m i) ≡ if_present v m
  by_test m e = λ k i. (sym e ∙ present) k && m i

  pub of_device : (p : Product) → x ≡ true → bits p.adapters ≡ v.adapters → bits p.domains ≡ v.domains → AssignedProduct v p
  unfolding product
  of_device p e f g =
      record {
        adapters = f ∙ by_test v.adapters e;
        domains = g ∙ by_test v.domains e;
        members = ap₂ in_product f g ∙ by_test (in_product v.adapters v.domains) e;
      }

  pub of_none : (p : Product) → x ≡ false → ProductOf no_bits no_bits no_bits p → AssignedProduct v p
  unfolding product no_bits
  of_none p e none =
      record {
        adapters = none.adapters ∙ by_test v.adapters e;
        domains = none.domains ∙ by_test v.domains e;
        members = none.members ∙ by_test (in_product v.adapters v.domains) e;
      }
