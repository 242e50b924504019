-- Two products share a queue exactly when their adapters meet and their domains meet. A queue in a product, the queues of one adapter.
-- Assumes nothing.
use Prim.Native.Nat.{ℕ, ◌+◌, ◌*◌, ◌/◌, ◌%◌, ◌<◌}
use native.Mathlib.Nat.{mod-lt, div-lt_iff_lt-mul}
use mathlib.Core.Bool.{Bool, true, false, ◌&&◌, and-eq-true_iff}
use mathlib.Core.Path.{◌≡◌, sym, ap, ap₂, subst, ◌∙◌}
use lib.Dec.{lit<}
use Rattle.mask.specs.Bits.{Bits, bits, no_bits, both, some_below}
use Rattle.mask.proofs.Laws.{same_test, some_intro, some_elim}
use Rattle.rules.specs.State.{in_product, queues}
use Rattle.rules.proofs.Products.{both_left, both_right, in_both, queue_below, in_product_lem, product_apid, product_apqi}
use Rattle.product.specs.Meet.{queues_of, ProductOf, Meet, Row}
use Rattle.product.specs.declared.Product.{Product}

-- for any two products: whether the adapters meet and the domains meet is yes exactly when some queue is in both
pub meet : (a d a' d' : Bits) → Meet (in_product a d) (in_product a' d') (some_below 256 (both a a') && some_below 256 (both d d'))
meet a d a' d' =
    let both_meet = and-eq-true_iff (some_below 256 (both a a')) (some_below 256 (both d d')) in
    record {
      exactly = (
        λ t.
            let f = some_elim 256 (both a a') (both_meet.0 t).0 in
            let g = some_elim 256 (both d d') (both_meet.0 t).1 in (
              f.0 * 256 + g.0,
              queue_below f.0 g.0 f.1 g.1,
              in_product_lem a d f.0 g.0 g.1
                  ∙ (and-eq-true_iff (a f.0) (d g.0)).1 (both_left a a' f.0 f.2, both_left d d' g.0 g.2),
              in_product_lem a' d' f.0 g.0 g.1
                  ∙ (and-eq-true_iff (a' f.0) (d' g.0)).1 (both_right a a' f.0 f.2, both_right d d' g.0 g.2),
            ),
        λ f.
            both_meet.1 (
              some_intro 256 (both a a') (f.0 / 256) ((div-lt_iff_lt-mul (lit< tt)).1 f.1)
                  (in_both a a' (f.0 / 256) (product_apid a d f.0 f.2) (product_apid a' d' f.0 f.3)),
              some_intro 256 (both d d') (f.0 % 256) (mod-lt f.0 (lit< tt))
                  (in_both d d' (f.0 % 256) (product_apqi a d f.0 f.2) (product_apqi a' d' f.0 f.3)),
            ),
      );
    }

-- the rules look for the queue among all, and name the second set otherwise (s for b)
pub meet_test : {a b s : Bits} {r : Bool} → Meet a b r → b ≡ s → r ≡ some_below queues (both a s)
meet_test {a} {b} m e =
    same_test
    (λ t. let f = m.exactly.0 t in some_intro queues (both a b) f.0 f.1 (in_both a b f.0 f.2 f.3))
    (λ t. let f = some_elim queues (both a b) t in m.exactly.1 (f.0, f.1, both_left a b f.0 f.2, both_right a b f.0 f.2))
    ∙ ap (λ (u : Bits). some_below queues (both a u)) e

-- the same for one queue
pub has_test : {m s : Bits} (q : ℕ) {x : Bool} → x ≡ m q → m ≡ s → x ≡ s q
has_test q p e = p ∙ ap (λ (u : Bits). u q) e

-- the same for the queues of one adapter
pub row_test : {m s r : Bits} (a : ℕ) → Row m a r → m ≡ s → Row s a r
row_test a row e = λ d h. has_test (a * 256 + d) (row d h) e

-- a product by its masks
pub product_of : (p : Product) {a d : Bits} → bits p.adapters ≡ a → bits p.domains ≡ d → ProductOf a d (in_product a d) p
product_of p e f = record { adapters = e; domains = f; members = ap₂ in_product e f }

-- no adapter and no domain make no queue
pub product_none : (p : Product) → bits p.adapters ≡ no_bits → bits p.domains ≡ no_bits → ProductOf no_bits no_bits no_bits p
unfolding in_product no_bits
product_none p e f = product_of p e f

-- the tests as they are made: of the adapters first, and where that is yes, of the domains
module _ (p o : Product) {x : Bool} (adapters : x ≡ some_below 256 (both (bits p.adapters) (bits o.adapters))) where
  met : Meet (queues_of p) (queues_of o) (x && some_below 256 (both (bits p.domains) (bits o.domains)))
  met = rw adapters (meet (bits p.adapters) (bits p.domains) (bits o.adapters) (bits o.domains))

  pub meet_both : {y : Bool} → x ≡ true → y ≡ some_below 256 (both (bits p.domains) (bits o.domains)) → Meet (queues_of p) (queues_of o) y
  meet_both e domains = subst (Meet (queues_of p) (queues_of o)) (ap₂ ◌&&◌ e (sym domains)) met

  pub meet_not : x ≡ false → Meet (queues_of p) (queues_of o) x
  meet_not e = subst (Meet (queues_of p) (queues_of o)) (ap (λ (b : Bool). b && some_below 256 (both (bits p.domains) (bits o.domains))) e ∙ sym e) met

module _ (p : Product) (a : ℕ) {x : Bool} (adapter : x ≡ bits p.adapters a) where
  had : (d : ℕ) {b : Bool} → d < 256 → x ≡ b → (b && bits p.domains d) ≡ queues_of p (a * 256 + d)
  had d h e = ap (λ (c : Bool). c && bits p.domains d) (sym e ∙ adapter) ∙ sym (in_product_lem (bits p.adapters) (bits p.domains) a d h)

  -- a queue of an adapter that is there, and of one that is not
  pub has_both : (d : ℕ) {y : Bool} → d < 256 → x ≡ true → y ≡ bits p.domains d → y ≡ queues_of p (a * 256 + d)
  has_both d h e domain = domain ∙ had d h e

  pub has_not : (d : ℕ) → d < 256 → x ≡ false → x ≡ queues_of p (a * 256 + d)
  has_not d h e = e ∙ had d h e

  -- all queues of an adapter
  pub row_of : x ≡ true → Row (queues_of p) a (bits p.domains)
  row_of e = λ d h. had d h e

  pub row_none : {m : Bits} → x ≡ false → m ≡ no_bits → Row (queues_of p) a m
  unfolding no_bits
  row_none e none = λ d h. ap (λ (f : Bits). f d) none ∙ had d h e
