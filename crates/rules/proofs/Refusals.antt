-- Demand 2's sentence: an assignment to a known device, in range, is refused exactly when a pair that it would add to the
-- product is reserved for the host or assigned to another device.
-- Assumes nothing.
use Prim.Native.Nat.{ℕ, ◌<◌, ◌/◌, ◌%◌}
use native.Mathlib.Omega.{arith}
use mathlib.Core.Bool.{Bool, true, false, cond, not, ◌&&◌, ◌||◌, true≢false, and-eq-true_iff, and-not_self}
use mathlib.Core.List.{List}
use mathlib.Core.Path.{◌≡◌, refl, sym, ap, ◌∙◌, fun_ext}
use mathlib.Core.Logic.{◌↔◌, inl, inr, ⊎_elim}
use lib.Dec.{eqb}
use borrow.Author.Tests.{lt-ltb, le-leb, eqb-true}
use Rattle.errno.specs.Outcome.{granted, refused}
use Rattle.errno.specs.Errno.{number_of}
use Rattle.errno.specs.declared.Errno.TheVariants.{Eaddrinuse, Eaddrnotavail}
use Rattle.mask.specs.Bits.{Bits, some_below, both, no_bits, included}
use Rattle.mask.proofs.Laws.{some_elim, some_none}
use Rattle.rules.specs.declared.Id.{Id}
use Rattle.rules.specs.declared.Kind.{Kind}
use Rattle.rules.specs.declared.Kind.TheVariants.{Adapter, Domain, Control}
use Rattle.rules.specs.State.{Device, Devices, State, slots, queues, in_product}
use Rattle.rules.specs.Queues.{reserved}
use Rattle.rules.specs.Commands.{Answer, answered, errno_of, slot_of, product, assigned_elsewhere, reading, on_device, numbers_of, with_numbers, limit_of, single, paired, adds, adding, assign_at, assign_number, assign, with_device, same_id, first_from}
use Rattle.rules.specs.Refusals.{Clash, NumberRefusedExactly, RefusedExactly}
use Rattle.rules.proofs.First.{first_holds}
use Rattle.rules.proofs.Products.{both_left, both_right, in_both}

-- ---- what a new number adds is what it pairs with

new_adapter : (e a d : Bool) → (e ≡ true → a ≡ false) → (((e || a) && d) && not (a && d)) ≡ (e && d)
new_adapter true true d h = absurd (true≢false (h refl))
new_adapter true false true h = refl
new_adapter true false false h = refl
new_adapter false a d h = and-not_self (a && d)

new_domain : (e a d : Bool) → (e ≡ true → d ≡ false) → ((a && (e || d)) && not (a && d)) ≡ (a && e)
new_domain true true true h = absurd (true≢false (h refl))
new_domain true true false h = refl
new_domain true false d h = refl
new_domain false true true h = refl
new_domain false true false h = refl
new_domain false false d h = refl

-- the slot of a known id holds a device
pub slot_present : (i : Id) (vs : Devices) → slot_of i vs < slots → (vs (slot_of i vs)).present ≡ true
unfolding slot_of
slot_present i vs h =
    let p = first_from slots 0 (λ p. (vs p).present && same_id i (vs p).id) in
    ((and-eq-true_iff (vs p).present (same_id i (vs p).id)).0 (first_holds slots 0 (λ p. (vs p).present && same_id i (vs p).id) (omega arith))).0

-- what a new number adds is what it pairs with
pub adds_paired : (k : Kind) (n : ℕ) (v : Device) → v.present ≡ true → numbers_of k v n ≡ false → (q : ℕ) → adds k n v q ≡ paired k n v q
unfolding adds paired product with_numbers numbers_of in_product single included no_bits
adds_paired Adapter n v e h q =
    ap (λ (b : Bool). (b && ((eqb (q / 256) n || v.adapters (q / 256)) && v.domains (q % 256))) && not (b && (v.adapters (q / 256) && v.domains (q % 256)))) e
    ∙ new_adapter (eqb (q / 256) n) (v.adapters (q / 256)) (v.domains (q % 256)) (λ t. ap v.adapters (eqb-true (q / 256) n t) ∙ h)
adds_paired Domain n v e h q =
    ap (λ (b : Bool). (b && (v.adapters (q / 256) && (eqb (q % 256) n || v.domains (q % 256)))) && not (b && (v.adapters (q / 256) && v.domains (q % 256)))) e
    ∙ new_domain (eqb (q % 256) n) (v.adapters (q / 256)) (v.domains (q % 256)) (λ t. ap v.domains (eqb-true (q % 256) n t) ∙ h)
adds_paired Control n v e h q = and-not_self (v.present && (v.adapters (q / 256) && v.domains (q % 256)))

-- a number that is assigned adds nothing
pub absorbed : (n : ℕ) (m : Bits) → m n ≡ true → included n m ≡ m
unfolding included
absorbed n m h = fun_ext (λ i. go i (eqb i n) refl)
  where
    go : (i : ℕ) (b : Bool) → eqb i n ≡ b → (b || m i) ≡ m i
    go i true e = sym (ap m (eqb-true i n e) ∙ h)
    go i false e = refl

pub same_numbers : (k : Kind) (v : Device) → with_numbers k (numbers_of k v) v ≡ v
unfolding with_numbers numbers_of
same_numbers Adapter v = refl
same_numbers Domain v = refl
same_numbers Control v = refl

adds_none : (k : Kind) (n : ℕ) (v : Device) → numbers_of k v n ≡ true → (q : ℕ) → adds k n v q ≡ false
unfolding adds
adds_none k n v h q =
    ap (λ (m : Bits). product (with_numbers k m v) q && not (product v q)) (absorbed n (numbers_of k v) h)
    ∙ ap (λ (u : Device). product u q && not (product v q)) (same_numbers k v)
    ∙ and-not_self (product v q)

-- ---- the sentence

module _ (k : Kind) (n p : ℕ) (s : State) (e : (s.device p).present ≡ true) where
  new : Bits
  new = paired k n (s.device p)

  added : State
  added = with_device p (with_numbers k (included n (numbers_of k (s.device p))) (s.device p)) s

  -- a new number: what a test of `adding` finds
  module _ (h : numbers_of k (s.device p) n ≡ false) (b : Bits) where
    found : some_below queues (both new b) ≡ true → (q : ℕ) × (q < queues) × (adds k n (s.device p) q ≡ true) × (b q ≡ true)
    unfolding new
    found f =
        let g = some_elim queues (both new b) f in
        (g.0, g.1, adds_paired k n (s.device p) e h g.0 ∙ both_left new b g.0 g.2, both_right new b g.0 g.2)

    free : some_below queues (both new b) ≡ false → (q : ℕ) → q < queues → adds k n (s.device p) q ≡ true → b q ≡ true → ⊥
    unfolding new
    free f q l a r =
        true≢false (sym (in_both new b q (sym (adds_paired k n (s.device p) e h q) ∙ a) r) ∙ some_none queues (both new b) f q l)

  -- on what both tests find
  clashes : numbers_of k (s.device p) n ≡ false → (x y : Bool) → some_below queues (both new (reserved s.host)) ≡ x
      → some_below queues (both new (assigned_elsewhere p s.device)) ≡ y
      → ((errno_of (cond x (refused Eaddrnotavail) (cond y (refused Eaddrinuse) (granted added))) ≡ 0 → ⊥) ↔ Clash k n p s.host s.device)
  unfolding errno_of number_of Clash
  clashes h true y hx hy = (λ f. let g = found h (reserved s.host) hx in (g.0, g.1, g.2, inl g.3), λ c z. omega arith)
  clashes h false true hx hy = (λ f. let g = found h (assigned_elsewhere p s.device) hy in (g.0, g.1, g.2, inr g.3), λ c z. omega arith)
  clashes h false false hx hy = (
    λ f. absurd (f refl),
    λ c z. ⊎_elim (free h (reserved s.host) hx c.0 c.1 c.2) (free h (assigned_elsewhere p s.device) hy c.0 c.1 c.2) c.3,
  )

  at_slot : (b : Bool) → numbers_of k (s.device p) n ≡ b
      → ((errno_of (cond b (granted s) (adding new p s added)) ≡ 0 → ⊥) ↔ Clash k n p s.host s.device)
  unfolding errno_of Clash adding
  at_slot true h = (λ f. absurd (f refl), λ c z. true≢false (sym c.2 ∙ adds_none k n (s.device p) h c.0))
  at_slot false h =
      clashes h (some_below queues (both new (reserved s.host))) (some_below queues (both new (assigned_elsewhere p s.device))) refl refl

-- an assignment of a number to a known device, in range
pub number_refused_exactly : (k : Kind) (i : Id) (n : ℕ) (s : State) (r : Answer) → answered r ≡ errno_of (assign_number k i n s)
    → NumberRefusedExactly k i n s.limits s.host s.device r
unfolding NumberRefusedExactly on_device assign_at new added
number_refused_exactly k i n s r e h l =
    let p = slot_of i s.device in
    rw (e, lt-ltb p slots h, le-leb n (limit_of k s.limits) l)
    (at_slot k n p s (slot_present i s.device h) (numbers_of k (s.device p) n) refl)

-- the same by text
pub refused_exactly : (k : Kind) (i : Id) (text : List ℕ) (s : State) (r : Answer) → answered r ≡ errno_of (assign k i text s)
    → RefusedExactly k i text s.limits s.host s.device r
unfolding RefusedExactly assign reading
refused_exactly k i text s r e n t = number_refused_exactly k i n s r (rw t at e)
