-- One more queue, or one more adapter's queues, of those that are unbound.
-- Assumes nothing.
use Prim.Native.Nat.{ℕ, zero, suc, ◌+◌, ◌*◌, ◌<◌}
use native.Mathlib.Omega.{arith}
use native.Mathlib.Numerals.{add-one}
use mathlib.Core.Bool.{Bool, false, cond, not, ◌&&◌}
use mathlib.Core.List.{List}
use mathlib.Core.Path.{◌≡◌, refl, sym, ap, ap₂, ◌∙◌}
use lib.ListN.{set}
use Rattle.mask.specs.declared.Mask.{Mask}
use Rattle.mask.specs.Bits.{Bits, bits, some_below}
use Rattle.mask.proofs.Laws.{some_none}
use Rattle.rules.proofs.Products.{queue_apqi}
use Rattle.layout.specs.Layout.{unbind_one, unbind}
use Rattle.product.specs.declared.Product.{Product}
use Rattle.product.specs.Meet.{queues_of, Row}
use Rattle.unbind.specs.Gone.{gone, with_domain, unbind_row}

module _ (qs : List ℕ) (away : Bits) (a : ℕ) where
  -- no queue of an adapter, and one more
  pub row_nothing : unbind_row qs away a 0 ≡ qs
  unfolding unbind_row
  row_nothing = refl

  pub row_next : {rs ss : List ℕ} (n m : ℕ) → rs ≡ unbind_row qs away a n → ss ≡ unbind_one rs away (a * 256 + n) → m ≡ n + 1
      → ss ≡ unbind_row qs away a m
  unfolding unbind_row
  row_next n m e f next = f ∙ ap (λ (rs : List ℕ). unbind_one rs away (a * 256 + n)) e ∙ ap (unbind_row qs away a) (sym (next ∙ add-one n))

  -- the queues of an adapter, after those of the adapters before it
  row_after : (n : ℕ) → unbind_row (unbind qs away (a * 256)) away a n ≡ unbind qs away (a * 256 + n)
  unfolding unbind_row unbind
  row_after zero = let none : a * 256 ≡ a * 256 + 0 = omega arith in ap (unbind qs away) none
  row_after (suc n) =
      let next : suc (a * 256 + n) ≡ a * 256 + suc n = omega arith in
      ap (λ (l : List ℕ). unbind_one l away (a * 256 + n)) (row_after n) ∙ ap (unbind qs away) next

  -- all of them
  pub unbind_next : {rs ss : List ℕ} (m : ℕ) → rs ≡ unbind qs away (a * 256) → ss ≡ unbind_row rs away a 256 → m ≡ (a + 1) * 256
      → ss ≡ unbind qs away m
  unbind_next m e f next =
      let last : a * 256 + 256 ≡ m = omega arith in
      f ∙ ap (λ (rs : List ℕ). unbind_row rs away a 256) e ∙ row_after 256 ∙ ap (unbind qs away) last

-- no queue
pub unbind_nothing : (qs : List ℕ) (away : Bits) → unbind qs away 0 ≡ qs
unfolding unbind
unbind_nothing qs away = refl

-- the queues of an adapter, by another test of them
row_as : (qs : List ℕ) (f g : Bits) (a n : ℕ) → ((d : ℕ) → d < n → f (a * 256 + d) ≡ g (a * 256 + d)) → unbind_row qs f a n ≡ unbind_row qs g a n
unfolding unbind_row
row_as qs f g a zero h = refl
row_as qs f g a (suc n) h =
    ap₂ (λ (b : Bool) (l : List ℕ). cond b (set l (a * 256 + n) 0) l) (h n (omega arith)) (row_as qs f g a n (λ d k. h d (omega arith)))

row_false : (qs : List ℕ) (a n : ℕ) → qs ≡ unbind_row qs (λ q. false) a n
unfolding unbind_row
row_false qs a zero = refl
row_false qs a (suc n) = row_false qs a n

-- the domains of an adapter whose queues go
pub row_gone : (was is : Product) (a : ℕ) {m n k : Bits} → Row (queues_of was) a m → Row (queues_of is) a n → k ≡ (λ i. m i && not (n i))
    → Row (gone was is) a k
row_gone was is a before after e = λ d h. ap (λ (f : Bits). f d) e ∙ ap₂ (λ (x y : Bool). x && not y) (before d h) (after d h)

module _ (qs : List ℕ) (away : Bits) (a : ℕ) (m : Mask) (row : Row away a (bits m)) where
  -- an adapter of which no queue goes
  pub row_none : some_below 256 (bits m) ≡ false → qs ≡ unbind_row qs away a 256
  row_none e =
      row_false qs a 256
      ∙ row_as qs (λ q. false) away a 256 (λ d h. sym (some_none 256 (bits m) e d h) ∙ row d h)

  -- one of which some go: those of the domains
  pub row_some : unbind_row qs (with_domain m) a 256 ≡ unbind_row qs away a 256
  row_some = row_as qs (with_domain m) away a 256 (λ d h. ap (bits m) (queue_apqi a d h) ∙ row d h)
