-- No list of commands and moves gives one queue to two devices, nor a guest a queue that is not passed through.
-- Assumes nothing.
use Prim.Native.Nat.{ℕ, ◌+◌, ◌*◌, ◌/◌, ◌%◌, ◌<◌}
use native.Mathlib.Nat.{div-add-mod', mod-lt}
use mathlib.Core.Bool.{Bool, true, false, cond, not, ◌&&◌, true≢false, false≢true, and-eq-true_iff}
use mathlib.Core.List.{List, [], ◌∷◌}
use mathlib.Core.Path.{◌≡◌, refl, sym, ap, subst, ◌∙◌}
use lib.Dec.{eqb, ltb, leb, lit<}
use borrow.Author.Tests.{ltb-true, eqb-true, eqb-false, not-true, ne_eqb}
use Rattle.errno.specs.declared.Errno.{Errno}
use Rattle.errno.specs.Outcome.{Outcome, granted, refused}
use Rattle.errno.specs.declared.Errno.TheVariants.{Enoent, Ebusy, Eexist, Enodev, Einval, Enospc, Eaddrinuse, Eaddrnotavail}
use Rattle.mask.specs.Bits.{Bits, some_below, both, included, excluded, no_bits}
use Rattle.mask.proofs.Laws.{some_intro, some_none}
use Rattle.number.specs.Text.{number_text}
use Rattle.masktext.specs.Text.{mask_text}
use Rattle.rules.specs.declared.Id.{Id}
use Rattle.rules.specs.declared.Kind.{Kind}
use Rattle.rules.specs.declared.Kind.TheVariants.{Adapter, Domain, Control}
use Rattle.rules.specs.State.{Limits, HostMasks, Device, State, slots, queues, in_product, no_device, fresh}
use Rattle.rules.specs.Queues as Queues
use Rattle.rules.specs.Queues.{passed, guest_domains, guest_adapters, usable}
use Rattle.rules.specs.Commands as Commands
use Rattle.rules.specs.Commands.{state_after, slot_of, free_slot, with_device, with_host, with_config, on_device, reading, new_device, with_open, numbers_of, with_numbers, limit_of, paired, adds, adding, assign_at, set_host, stored, beyond_limits, product, assigned_elsewhere}
use Rattle.rules.proofs.Products.{in_both}
use Rattle.rules.proofs.Refusals.{slot_present, adds_paired}
use Rattle.model.specs.Steps.{Command, create, remove, open_it, close_it, assign, unassign, set_apmask, set_aqmask, configure, Step, command, move, rule, after, after_all, queue_of}

-- the products of two devices have no queue in common, and only a device that is there is open
pub record Exclusive (s : State) : Type 0 where
  pub apart : (p j q : ℕ) → p < slots → j < slots → q < queues → product (s.device p) q ≡ true → product (s.device j) q ≡ true → p ≡ j
  pub there : (p : ℕ) → (s.device p).is_open ≡ true → (s.device p).present ≡ true

-- ---- putting a device

-- the device at a slot, after one was put
device_at_lem : (x : ℕ) (v : Device) (s : State) (j : ℕ) (P : Device → Type 0) → (j ≡ x → P v) → ((j ≡ x → ⊥) → P (s.device j)) → P ((with_device x v s).device j)
unfolding with_device
device_at_lem x v s j P here other = go (eqb j x) refl
  where
    go : (b : Bool) → eqb j x ≡ b → P (cond b v (s.device j))
    go true e = here (eqb-true j x e)
    go false e = other (eqb-false j x e)

put_exclusive : (x : ℕ) (v : Device) (s : State) → Exclusive s → (v.is_open ≡ true → v.present ≡ true)
    → ((j q : ℕ) → j < slots → q < queues → (j ≡ x → ⊥) → product v q ≡ true → product (s.device j) q ≡ true → ⊥)
    → Exclusive (with_device x v s)
put_exclusive x v s h o clash = record { apart = apart; there = λ p. device_at_lem x v s p (λ w. w.is_open ≡ true → w.present ≡ true) (λ e. o) (λ n. h.there p) }
  where
    apart : (p j q : ℕ) → p < slots → j < slots → q < queues → product ((with_device x v s).device p) q ≡ true → product ((with_device x v s).device j) q ≡ true → p ≡ j
    apart p j q lp lj lq =
        device_at_lem x v s p (λ w. product w q ≡ true → product ((with_device x v s).device j) q ≡ true → p ≡ j)
        (λ ep a. device_at_lem x v s j (λ w. product w q ≡ true → p ≡ j) (λ ej b. ep ∙ sym ej) (λ nj b. absurd (clash j q lj lq nj a b)))
        (λ np a. device_at_lem x v s j (λ w. product w q ≡ true → p ≡ j) (λ ej b. absurd (clash p q lp lq np b a)) (λ nj b. h.apart p j q lp lj lq a b))

nothing : (i : ℕ) → no_bits i ≡ false
unfolding no_bits
nothing i = refl

-- a device with nothing assigned, and one with the same product or less
no_product : (v : Device) (q : ℕ) → v.adapters ≡ no_bits → product v q ≡ true → ⊥
unfolding product in_product
no_product v q e h =
    true≢false (sym ((and-eq-true_iff (v.adapters (q / 256)) (v.domains (q % 256))).0 ((and-eq-true_iff v.present (v.adapters (q / 256) && v.domains (q % 256))).0 h).1).0
    ∙ ap (λ (b : Bits). b (q / 256)) e ∙ nothing (q / 256))

put_less : (x : ℕ) (v : Device) (s : State) → Exclusive s → x < slots → (v.is_open ≡ true → v.present ≡ true)
    → ((q : ℕ) → product v q ≡ true → product (s.device x) q ≡ true) → Exclusive (with_device x v s)
put_less x v s h l o less = put_exclusive x v s h o (λ j q lj lq n a b. n (h.apart j x q lj l lq b (less q a)))

-- ---- what holds after an outcome, whichever way it goes

module _ (s : State) (h : Exclusive s) where
  refuse : (e : Errno) → Exclusive (state_after s (refused e))
  unfolding state_after
  refuse e = h

  grant : (t : State) → Exclusive t → Exclusive (state_after s (granted t))
  unfolding state_after
  grant t k = k

  either_way : (b : Bool) (x y : Outcome State) → (b ≡ true → Exclusive (state_after s x)) → (b ≡ false → Exclusive (state_after s y)) → Exclusive (state_after s (cond b x y))
  either_way true x y f g = f refl
  either_way false x y f g = g refl

  on_device_lem : (i : Id) (next : ℕ → Outcome State) → (slot_of i s.device < slots → Exclusive (state_after s (next (slot_of i s.device))))
      → Exclusive (state_after s (on_device i s next))
  unfolding on_device
  on_device_lem i next f =
      either_way (ltb (slot_of i s.device) slots) (next (slot_of i s.device)) (refused Enoent)
      (λ e. f (ltb-true (slot_of i s.device) slots e)) (λ e. refuse Enoent)

  with_text_lem : {A : Type 0} (o : Outcome A) (next : A → Outcome State) → ((a : A) → Exclusive (state_after s (next a))) → Exclusive (state_after s (reading o next))
  unfolding reading
  with_text_lem (granted a) next f = f a
  with_text_lem (refused e) next f = refuse e

  -- ---- each command

  bare : (x : ℕ) (v : Device) → v.is_open ≡ false → v.adapters ≡ no_bits → Exclusive (with_device x v s)
  bare x v o e = put_exclusive x v s h (λ t. absurd (true≢false (sym t ∙ o))) (λ j q lj lq n a b. no_product v q e a)

  created : (i : Id) → Exclusive (state_after s (Commands.create i s))
  unfolding Commands.create new_device
  created i =
      either_way (ltb (slot_of i s.device) slots) _ _ (λ e. refuse Eexist)
      (λ e. either_way (ltb (free_slot s.device) slots) _ _
      (λ f. grant (with_device (free_slot s.device) (new_device i) s) (bare (free_slot s.device) (new_device i) refl refl)) (λ f. refuse Enospc))

  removed : (i : Id) → Exclusive (state_after s (Commands.remove i s))
  unfolding Commands.remove no_device
  removed i =
      let p = slot_of i s.device in
      on_device_lem i _ (λ l. either_way (s.device p).is_open _ _ (λ e. refuse Ebusy) (λ e. grant (with_device p no_device s) (bare p no_device refl refl)))

  marked : (i : Id) (o : Bool) → slot_of i s.device < slots
      → Exclusive (state_after s (granted (with_device (slot_of i s.device) (with_open o (s.device (slot_of i s.device))) s)))
  unfolding with_open product
  marked i o l =
      let p = slot_of i s.device in
      grant (with_device p (with_open o (s.device p)) s) (put_less p (with_open o (s.device p)) s h l (λ t. slot_present i s.device l) (λ q a. a))

  opened : (i : Id) → Exclusive (state_after s (Commands.open_device i s))
  unfolding Commands.open_device
  opened i = on_device_lem i _ (λ l. either_way (s.device (slot_of i s.device)).is_open _ _ (λ e. refuse Ebusy) (λ e. marked i true l))

  closed : (i : Id) → Exclusive (state_after s (Commands.close_device i s))
  unfolding Commands.close_device
  closed i = on_device_lem i _ (λ l. either_way (s.device (slot_of i s.device)).is_open _ _ (λ e. marked i false l) (λ e. refuse Einval))

-- the flags of a device do not change with its numbers
same_flags : (k : Kind) (m : Bits) (v : Device) → (v.is_open ≡ true → v.present ≡ true) → (with_numbers k m v).is_open ≡ true → (with_numbers k m v).present ≡ true
unfolding with_numbers
same_flags Adapter m v f = f
same_flags Domain m v f = f
same_flags Control m v f = f

-- bits that are left
left_in : (n : ℕ) (m : Bits) (i : ℕ) → excluded n m i ≡ true → m i ≡ true
unfolding excluded
left_in n m i e = ((and-eq-true_iff (not (eqb i n)) (m i)).0 e).1

-- a product with a number taken away
fewer : (k : Kind) (n : ℕ) (v : Device) (q : ℕ) → product (with_numbers k (excluded n (numbers_of k v)) v) q ≡ true → product v q ≡ true
unfolding product in_product with_numbers numbers_of
fewer Adapter n v q e =
    let a = (and-eq-true_iff v.present (excluded n v.adapters (q / 256) && v.domains (q % 256))).0 e in
    let b = (and-eq-true_iff (excluded n v.adapters (q / 256)) (v.domains (q % 256))).0 a.1 in
    (and-eq-true_iff v.present (v.adapters (q / 256) && v.domains (q % 256))).1
    (a.0, (and-eq-true_iff (v.adapters (q / 256)) (v.domains (q % 256))).1 (left_in n v.adapters (q / 256) b.0, b.1))
fewer Domain n v q e =
    let a = (and-eq-true_iff v.present (v.adapters (q / 256) && excluded n v.domains (q % 256))).0 e in
    let b = (and-eq-true_iff (v.adapters (q / 256)) (excluded n v.domains (q % 256))).0 a.1 in
    (and-eq-true_iff v.present (v.adapters (q / 256) && v.domains (q % 256))).1
    (a.0, (and-eq-true_iff (v.adapters (q / 256)) (v.domains (q % 256))).1 (b.0, left_in n v.domains (q % 256) b.1))
fewer Control n v q e = e

module _ (s : State) (h : Exclusive s) where
  unassigned : (k : Kind) (i : Id) (text : List ℕ) → Exclusive (state_after s (Commands.unassign k i text s))
  unfolding Commands.unassign
  unassigned k i text =
      let p = slot_of i s.device in
      let v = s.device p in
      with_text_lem s h (number_text text) _
      (λ n. let m = excluded n (numbers_of k v) in
      on_device_lem s h i _
      (λ l. either_way s h (leb n (limit_of k s.limits)) _ _
      (λ e. grant s h (with_device p (with_numbers k m v) s) (put_less p (with_numbers k m v) s h l (same_flags k m v (h.there p)) (fewer k n v)))
      (λ e. refuse s h Enodev)))

  -- a number that is assigned past the check for EADDRINUSE
  module _ (k : Kind) (n p : ℕ) (lp : p < slots) (here : (s.device p).present ≡ true) (new : numbers_of k (s.device p) n ≡ false)
      (free : some_below queues (both (paired k n (s.device p)) (assigned_elsewhere p s.device)) ≡ false) where
    v' : Device
    v' = with_numbers k (included n (numbers_of k (s.device p))) (s.device p)

    elsewhere : (j q : ℕ) → j < slots → (j ≡ p → ⊥) → product (s.device j) q ≡ true → assigned_elsewhere p s.device q ≡ true
    unfolding assigned_elsewhere
    elsewhere j q lj nj b =
        some_intro slots (λ x. not (eqb x p) && product (s.device x) q) j lj
        ((and-eq-true_iff (not (eqb j p)) (product (s.device j) q)).1 (ap not (ne_eqb j p nj), b))

    new_one : (q : ℕ) → product v' q ≡ true → product (s.device p) q ≡ false → adds k n (s.device p) q ≡ true
    unfolding adds v'
    new_one q a e = (and-eq-true_iff (product v' q) (not (product (s.device p) q))).1 (a, ap not e)

    clash : (j q : ℕ) → j < slots → q < queues → (j ≡ p → ⊥) → product v' q ≡ true → product (s.device j) q ≡ true → ⊥
    clash j q lj lq nj a b = go (product (s.device p) q) refl
      where
        go : (x : Bool) → product (s.device p) q ≡ x → ⊥
        go true e = nj (h.apart j p q lj lp lq b e)
        go false e =
            let added : adds k n (s.device p) q ≡ true = new_one q a e in
            true≢false
            (sym (in_both (paired k n (s.device p)) (assigned_elsewhere p s.device) q
            (sym (adds_paired k n (s.device p) here new q) ∙ added) (elsewhere j q lj nj b))
            ∙ some_none queues (both (paired k n (s.device p)) (assigned_elsewhere p s.device)) free q lq)

    put_new : Exclusive (with_device p v' s)
    unfolding v'
    put_new = put_exclusive p v' s h (same_flags k (included n (numbers_of k (s.device p))) (s.device p) (h.there p)) clash

  assigned_at_lem : (k : Kind) (n p : ℕ) → p < slots → (s.device p).present ≡ true → Exclusive (state_after s (assign_at k n p s))
  unfolding assign_at adding v'
  assigned_at_lem k n p lp here =
      either_way s h (numbers_of k (s.device p) n) _ _ (λ e. grant s h s h)
      (λ new. either_way s h (some_below queues (both (paired k n (s.device p)) (Queues.reserved s.host))) _ _ (λ e. refuse s h Eaddrnotavail)
      (λ e. either_way s h (some_below queues (both (paired k n (s.device p)) (assigned_elsewhere p s.device))) _ _ (λ f. refuse s h Eaddrinuse)
      (λ free. grant s h (with_device p (with_numbers k (included n (numbers_of k (s.device p))) (s.device p)) s) (put_new k n p lp here new free))))

  assigned : (k : Kind) (i : Id) (text : List ℕ) → Exclusive (state_after s (Commands.assign k i text s))
  unfolding Commands.assign
  assigned k i text =
      with_text_lem s h (number_text text) _
      (λ n. on_device_lem s h i _
      (λ l. either_way s h (leb n (limit_of k s.limits)) _ _ (λ e. assigned_at_lem k n (slot_of i s.device) l (slot_present i s.device l)) (λ e. refuse s h Enodev)))

  -- what does not touch a device
  masks_set : (m : HostMasks) → Exclusive (state_after s (set_host m s))
  unfolding set_host with_host
  masks_set m = either_way s h (some_below queues (both (Queues.reserved m) (Commands.assigned s.device))) _ _ (λ e. refuse s h Eaddrinuse) (λ e. grant s h (with_host m s) (record { apart = h.apart; there = h.there }))

  -- every command
  after_command : (c : Command) → Exclusive (state_after s (rule c s))
  unfolding rule Commands.set_apmask Commands.set_aqmask Commands.configure with_config
  after_command (create i) = created s h i
  after_command (remove i) = removed s h i
  after_command (open_it i) = opened s h i
  after_command (close_it i) = closed s h i
  after_command (assign k i text) = assigned k i text
  after_command (unassign k i text) = unassigned k i text
  after_command (set_apmask text) = with_text_lem s h (mask_text text s.host.apmask) _ (λ m. masks_set (record { apmask = m; aqmask = s.host.aqmask }))
  after_command (set_aqmask text) = with_text_lem s h (mask_text text s.host.aqmask) _ (λ m. masks_set (record { apmask = s.host.apmask; aqmask = m }))
  after_command (configure c) =
      either_way s h (beyond_limits s.limits c) _ _ (λ e. refuse s h Enodev) (λ e. grant s h (with_config (stored c) s) (record { apart = h.apart; there = h.there }))

  -- a move
  after_move : (q : ℕ) → Exclusive (Queues.move q s)
  unfolding Queues.move
  after_move q = record { apart = h.apart; there = h.there }

-- every list
pub after_all_lem : (steps : List Step) (s : State) → Exclusive s → Exclusive (after_all steps s)
unfolding after_all after
after_all_lem [] s h = h
after_all_lem (command c ∷ steps) s h = after_all_lem steps (state_after s (rule c s)) (after_command s h c)
after_all_lem (move a d ∷ steps) s h = after_all_lem steps (Queues.move (queue_of a d) s) (after_move s h (queue_of a d))

pub fresh_exclusive : (l : Limits) → Exclusive (fresh l)
unfolding fresh no_device product
fresh_exclusive l = record { apart = λ p j q lp lj lq a b. absurd (true≢false (sym a)); there = λ p e. absurd (true≢false (sym e)) }

-- ---- what a guest can use

-- a queue that is usable is in the device's product
pub usable_product : (s : State) (v : Device) (q : ℕ) → v.present ≡ true → usable s v q ≡ true → product v q ≡ true
unfolding usable in_product product guest_adapters guest_domains both
usable_product s v q e u =
    let a = (and-eq-true_iff v.is_open (guest_adapters s v (q / 256) && guest_domains s v (q % 256))).0 u in
    let b = (and-eq-true_iff (guest_adapters s v (q / 256)) (guest_domains s v (q % 256))).0 a.1 in
    let c = (and-eq-true_iff (v.adapters (q / 256) && s.config.adapters (q / 256)) (not (some_below 256 (λ d. guest_domains s v d && not (passed (s.driver (q / 256 * 256 + d))))))).0 b.0 in
    let f = (and-eq-true_iff (v.adapters (q / 256)) (s.config.adapters (q / 256))).0 c.0 in
    let g = (and-eq-true_iff (v.domains (q % 256)) (s.config.domains (q % 256))).0 b.1 in
    (and-eq-true_iff v.present (v.adapters (q / 256) && v.domains (q % 256))).1 (e, (and-eq-true_iff (v.adapters (q / 256)) (v.domains (q % 256))).1 (f.0, g.0))

-- it is open
pub usable_open : (s : State) (v : Device) (q : ℕ) → usable s v q ≡ true → v.is_open ≡ true
unfolding usable
usable_open s v q u = ((and-eq-true_iff v.is_open (in_product (guest_adapters s v) (guest_domains s v) q)).0 u).0

-- it is passed through
pub usable_passed : (s : State) (v : Device) (q : ℕ) → usable s v q ≡ true → passed (s.driver q) ≡ true
unfolding usable in_product guest_adapters
usable_passed s v q u =
    let a = (and-eq-true_iff v.is_open (guest_adapters s v (q / 256) && guest_domains s v (q % 256))).0 u in
    let b = (and-eq-true_iff (guest_adapters s v (q / 256)) (guest_domains s v (q % 256))).0 a.1 in
    let f : ℕ → Bool = λ d. guest_domains s v d && not (passed (s.driver (q / 256 * 256 + d))) in
    let c = (and-eq-true_iff (v.adapters (q / 256) && s.config.adapters (q / 256)) (not (some_below 256 f))).0 b.0 in
    let none : f (q % 256) ≡ false = some_none 256 f (not-true (some_below 256 f) c.1) (q % 256) (mod-lt q (lit< tt)) in
    subst (λ (x : ℕ). passed (s.driver x) ≡ true) (div-add-mod' q 256)
    (go (guest_domains s v (q % 256)) (passed (s.driver (q / 256 * 256 + q % 256))) b.1 none)
  where
    go : (x y : Bool) → x ≡ true → (x && not y) ≡ false → y ≡ true
    go true true e f = refl
    go true false e f = absurd (true≢false f)
    go false y e f = absurd (false≢true e)
