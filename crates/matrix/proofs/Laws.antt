-- The queues that hold an adapter back, by the driver bytes; the adapters that are left as they are looked at one by one.
-- Assumes nothing.
use Prim.Native.Nat.{ℕ, ◌+◌, ◌*◌, ◌≤◌}
use native.Mathlib.Omega.{arith}
use mathlib.Core.Path.{◌≡◌, refl, sym, ap, ap₂, ◌∙◌}
use mathlib.Core.Bool.{Bool, true, false, not, ◌&&◌, and-true, and-false}
use mathlib.Core.List.{List}
use lib.ListN.{get_or}
use lib.Dec.{eqb, ltb}
use borrow.Author.Tests.{eqb-true, eqb-false, ltb-true, ltb-false, lt-ltb, le-ltb}
use Rattle.mask.specs.Bits.{Bits, both}
use Rattle.rules.specs.State.{Device}
use Rattle.rules.specs.Queues.{passed, guest_adapters, guest_domains}
use Rattle.layout.specs.Layout.{driver_of, config_in, state_in}
use Rattle.matrix.specs.Row.{missing, held_back}

-- a queue holds its adapter back where its domain is there and its driver does not pass it through
pub missing_at : (qs : List ℕ) (ds : Bits) (a d : ℕ) (s t : Bool) → ds d ≡ s → passed (driver_of (get_or qs (a * 256 + d) 0)) ≡ t
    → missing qs ds a d ≡ (s && not t)
unfolding missing
missing_at qs ds a d s t p q = ap₂ (λ (x y : Bool). x && not y) p q

-- one adapter more is looked at
pub next_look : (j a : ℕ) (b h : Bool) → (b && not (ltb j a && h) && not (eqb j a && h)) ≡ (b && not (ltb j (a + 1) && h))
next_look j a b h = go (ltb j a) (eqb j a) refl refl
  where
    seen : (x : Bool) → ltb j (a + 1) ≡ x → (b && not (x && h)) ≡ (b && not (ltb j (a + 1) && h))
    seen x e = ap (λ (y : Bool). b && not (y && h)) (sym e)

    go : (s t : Bool) → ltb j a ≡ s → eqb j a ≡ t → (b && not (s && h) && not (t && h)) ≡ (b && not (ltb j (a + 1) && h))
    go true true p q = absurd (omega (arith, ltb-true j a p, eqb-true j a q))
    go true false p q = and-true (b && not h) ∙ seen true (lt-ltb j (a + 1) (omega (arith, ltb-true j a p)))
    go false true p q = ap (λ (x : Bool). x && not h) (and-true b) ∙ seen true (lt-ltb j (a + 1) (omega (arith, eqb-true j a q)))
    go false false p q =
        let n : j ≡ a → ⊥ = eqb-false j a q in
        and-true (b && true) ∙ seen false (le-ltb j (a + 1) (omega (arith, ltb-false j a p)))

-- an adapter that is held back is dropped
pub dropped : (m : Bits) (h : Bits) (a : ℕ) → h a ≡ true → (j : ℕ) → (not (eqb j a) && m j) ≡ (m j && not (eqb j a && h j))
dropped m h a e j = go (eqb j a) refl
  where
    go : (t : Bool) → eqb j a ≡ t → (not t && m j) ≡ (m j && not (t && h j))
    go true q = sym (ap (λ (x : Bool). m j && not x) (ap h (eqb-true j a q) ∙ e) ∙ and-false (m j))
    go false q = sym (and-true (m j))

-- all 256 are looked at, and there are no more
pub all_looked : (j : ℕ) (b h : Bool) → (256 ≤ j → b ≡ false) → (b && not (ltb j 256 && h)) ≡ (b && not h)
all_looked j b h past = go (ltb j 256) refl
  where
    go : (t : Bool) → ltb j 256 ≡ t → (b && not (t && h)) ≡ (b && not h)
    go true e = refl
    go false e = let n : b ≡ false = past (ltb-false j 256 e) in ap (λ (x : Bool). x && true) n ∙ sym (ap (λ (x : Bool). x && not h) n)

-- the guest's adapters, from the record in memory
pub guest_adapters_lem : (ws qs : List ℕ) (v : Device) {adapters domains : Bits} → adapters ≡ both v.adapters (config_in ws).adapters
    → domains ≡ guest_domains (state_in ws qs) v → (λ j. adapters j && not (held_back qs domains j)) ≡ guest_adapters (state_in ws qs) v
unfolding both guest_adapters state_in held_back missing
guest_adapters_lem ws qs v p q = ap₂ (λ (f g : Bits). λ (j : ℕ). f j && not (held_back qs g j)) p q
