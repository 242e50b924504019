-- A row of targets from rows of products, and the target of a queue from its row.
-- Assumes nothing.
use Prim.Native.Nat.{ℕ, ◌+◌, ◌*◌, ◌<◌}
use mathlib.Core.Bool.{Bool, true, false, cond, not, ◌&&◌}
use mathlib.Core.Path.{◌≡◌, refl, ap, ap₂, ◌∙◌}
use lib.Dec.{leb}
use Rattle.mask.specs.Bits.{Bits, bits, no_bits, both}
use Rattle.rules.specs.declared.Driver.{Driver}
use Rattle.rules.specs.declared.Driver.TheVariants.{Unbound, Host, Passthrough}
use Rattle.rules.specs.State.{HostMasks, Config}
use Rattle.rules.specs.Queues.{reserved, configured, target_of, passed}
use Rattle.rules.proofs.Targets.{target_by}
use Rattle.product.specs.Meet.{Row}
use Rattle.targetrow.specs.TargetRows.{hosted, TargetsOf, row_target}
use Rattle.targetrow.specs.declared.TargetRow.{TargetRow}

-- a queue's target, by its row
pub row_target_lem : {h : HostMasks} {c : Config} {a : ℕ} {r : TargetRow} → TargetsOf h c a r → (d : ℕ) → d < 256 → row_target r d ≡ target_of h c (a * 256 + d)
unfolding hosted passed
row_target_lem {h} {c} {a} t d l =
    ap₂ (λ (x y : Bool). cond x Host (cond y Passthrough Unbound)) (t.host d l) (t.passthrough d l) ∙ back (target_of h c (a * 256 + d))
  where
    back : (v : Driver) → cond (hosted v) Host (cond (passed v) Passthrough Unbound) ≡ v
    back Unbound = refl
    back Host = refl
    back Passthrough = refl

-- whether a target is the host or passthrough, by the three tests
hosted_by : (x y t : Bool) → (x && y) ≡ hosted (cond x (cond y Host (cond t Passthrough Unbound)) Unbound)
unfolding hosted
hosted_by false y t = refl
hosted_by true true t = refl
hosted_by true false true = refl
hosted_by true false false = refl

passed_by : (x y t : Bool) → cond t (x && not y) false ≡ passed (cond x (cond y Host (cond t Passthrough Unbound)) Unbound)
unfolding passed
passed_by false y true = refl
passed_by false y false = refl
passed_by true true true = refl
passed_by true true false = refl
passed_by true false true = refl
passed_by true false false = refl

-- the bits of a mask or none
bits_or_none : (t : Bool) (m : Bits) (d : ℕ) → cond t m no_bits d ≡ cond t (m d) false
unfolding no_bits
bits_or_none true m d = refl
bits_or_none false m d = refl

-- a row, by the rows of what is configured and of what is reserved and by whether the adapter's type passes
pub targets_of : (h : HostMasks) (c : Config) (a : ℕ) {x y : Bits} → Row (configured c) a x → Row (reserved h) a y → (r : TargetRow) (t : Bool)
    → t ≡ leb 10 (c.types a) → bits r.host ≡ both x y → bits r.passthrough ≡ cond t (λ i. x i && not (y i)) no_bits → TargetsOf h c a r
unfolding both
targets_of h c a {x} {y} conf res r t e f g =
    record {
      host = λ d l. ap (λ (u : Bits). u d) f ∙ hosted_by (x d) (y d) t ∙ ap hosted (tests d l);
      passthrough = λ d l. ap (λ (u : Bits). u d) g ∙ bits_or_none t (λ i. x i && not (y i)) d ∙ passed_by (x d) (y d) t ∙ ap passed (tests d l);
    }
  where
    tests : (d : ℕ) → d < 256 → cond (x d) (cond (y d) Host (cond t Passthrough Unbound)) Unbound ≡ target_of h c (a * 256 + d)
    tests d l =
        ap (λ (u : Bool). cond (x d) (cond (y d) Host (cond u Passthrough Unbound)) Unbound) e ∙ target_by h c a d l (x d) (y d) (conf d l) (res d l)
