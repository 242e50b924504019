-- Queues in products of adapters and domains, and in those of devices.
-- Assumes nothing.
use Prim.Native.Nat.{ℕ, ◌+◌, ◌*◌, ◌/◌, ◌%◌, ◌<◌}
use native.Mathlib.Omega.{arith}
use mathlib.Core.Bool.{Bool, true, false, not, ◌&&◌, and-eq-true_iff}
use mathlib.Core.Path.{◌≡◌, refl, sym, ap, ap₂, ◌∙◌, fun_ext}
use lib.Dec.{eqb}
use lib.Arith.{digits_div, digits_mod}
use borrow.Author.Tests.{ne_eqb}
use Rattle.mask.specs.Bits.{Bits, some_below, both}
use Rattle.mask.proofs.Laws.{same_test, some_intro, some_elim, some_cong, none_some}
use Rattle.rules.specs.State.{Devices, in_product, slots, queues}
use Rattle.rules.specs.Commands.{product, assigned, assigned_elsewhere}

-- a bit that is in both
pub both_left : (a b : Bits) (i : ℕ) → both a b i ≡ true → a i ≡ true
unfolding both
both_left a b i e = ((and-eq-true_iff (a i) (b i)).0 e).0

pub both_right : (a b : Bits) (i : ℕ) → both a b i ≡ true → b i ≡ true
unfolding both
both_right a b i e = ((and-eq-true_iff (a i) (b i)).0 e).1

pub in_both : (a b : Bits) (i : ℕ) → a i ≡ true → b i ≡ true → both a b i ≡ true
unfolding both
in_both a b i p q = (and-eq-true_iff (a i) (b i)).1 (p, q)

-- the queue of an adapter and a domain
pub queue_apid : (a d : ℕ) → d < 256 → (a * 256 + d) / 256 ≡ a
queue_apid a d h = digits_div a h

pub queue_apqi : (a d : ℕ) → d < 256 → (a * 256 + d) % 256 ≡ d
queue_apqi a d h = digits_mod a h

pub queue_below : (a d : ℕ) → a < 256 → d < 256 → a * 256 + d < queues
queue_below a d h k = omega arith

-- a queue in a product, by its adapter and its domain
pub in_product_lem : (us vs : Bits) (a d : ℕ) → d < 256 → in_product us vs (a * 256 + d) ≡ (us a && vs d)
unfolding in_product
in_product_lem us vs a d h = ap₂ (λ (x y : ℕ). us x && vs y) (queue_apid a d h) (queue_apqi a d h)

-- a queue that is in a product
pub product_apid : (us vs : Bits) (q : ℕ) → in_product us vs q ≡ true → us (q / 256) ≡ true
unfolding in_product
product_apid us vs q e = ((and-eq-true_iff (us (q / 256)) (vs (q % 256))).0 e).0

pub product_apqi : (us vs : Bits) (q : ℕ) → in_product us vs q ≡ true → vs (q % 256) ≡ true
unfolding in_product
product_apqi us vs q e = ((and-eq-true_iff (us (q / 256)) (vs (q % 256))).0 e).1

-- some of the first n for some of the first k, in either order
pub some_swap : (n k : ℕ) (f : ℕ → ℕ → Bool) → some_below n (λ q. some_below k (λ j. f j q)) ≡ some_below k (λ j. some_below n (λ q. f j q))
some_swap n k f = same_test (turn n k (λ q j. f j q)) (turn k n f)
  where
    turn : (n k : ℕ) (g : ℕ → ℕ → Bool) → some_below n (λ q. some_below k (λ j. g q j)) ≡ true → some_below k (λ j. some_below n (λ q. g q j)) ≡ true
    turn n k g e =
        let x = some_elim n (λ q. some_below k (λ j. g q j)) e in
        let y = some_elim k (λ j. g x.0 j) x.2 in
        some_intro k (λ j. some_below n (λ q. g q j)) y.0 y.1 (some_intro n (λ q. g q y.0) x.0 x.1 y.2)

-- a test before and after `some`
pub some_and : (k : ℕ) (b : Bool) (f : Bits) → (b && some_below k f) ≡ some_below k (λ j. b && f j)
some_and k true f = refl
some_and k false f = sym (none_some k (λ j. false) (λ i h. refl))

-- the queues assigned to a device other than one that has no slot are those assigned to any
pub elsewhere_anywhere : (vs : Devices) → assigned_elsewhere slots vs ≡ assigned vs
unfolding assigned assigned_elsewhere
elsewhere_anywhere vs =
    fun_ext (λ q. some_cong slots (λ j. not (eqb j slots) && product (vs j) q) (λ j. product (vs j) q)
    (λ j h. ap (λ (b : Bool). not b && product (vs j) q) (ne_eqb j slots (λ e. omega arith))))

-- some queues and another device's meet exactly when they meet the product of some device elsewhere
pub taken_by : (p : ℕ) (vs : Devices) (m : Bits)
    → some_below queues (both m (assigned_elsewhere p vs)) ≡ some_below slots (λ j. not (eqb j p) && some_below queues (both m (product (vs j))))
unfolding both assigned_elsewhere
taken_by p vs m =
    some_cong queues (λ q. m q && some_below slots (λ j. not (eqb j p) && product (vs j) q)) (λ q. some_below slots (λ j. m q && (not (eqb j p) && product (vs j) q)))
    (λ q h. some_and slots (m q) (λ j. not (eqb j p) && product (vs j) q))
    ∙ some_swap queues slots (λ j q. m q && (not (eqb j p) && product (vs j) q))
    ∙ some_cong slots (λ j. some_below queues (λ q. m q && (not (eqb j p) && product (vs j) q))) (λ j. not (eqb j p) && some_below queues (λ q. m q && product (vs j) q))
    (λ j h. one (not (eqb j p)) (product (vs j)))
  where
    one : (a : Bool) (u : Bits) → some_below queues (λ q. m q && (a && u q)) ≡ (a && some_below queues (λ q. m q && u q))
    one true u = refl
    one false u = none_some queues (λ q. m q && false) (λ q h. mathlib.Core.Bool.and-false (m q))
