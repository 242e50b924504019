-- What assigning writes and reads, the rule at a slot, and where a number goes.
-- Assumes nothing.
use Rattle.std.proofs.Common.{Ok, Err, Some, None}
use Prim.Native.Nat.{ℕ, zero, suc, ◌+◌, ◌^◌, ◌<◌}
use native.Mathlib.Omega.{arith}
use mathlib.Core.Bool.{Bool, true, false, cond}
use mathlib.Core.List.{List, []}
use mathlib.Core.Path.{◌≡◌, refl, sym, ap, ap₂, ◌∙◌}
use lib.ListN.{get_or}
use lib.Dec.{ltb, leb}
use borrow.Author.Tests.{ltb-true}
use Rattle.errno.specs.Outcome.{Outcome, granted, refused}
use Rattle.errno.specs.declared.Errno.{Errno}
use Rattle.errno.specs.declared.Errno.TheVariants.{Enoent, Enodev}
use Rattle.mask.specs.declared.Mask.{Mask}
use Rattle.mask.specs.Bits.{Sized, Bits, bits, included}
use Rattle.rules.specs.declared.Id.{Id}
use Rattle.rules.specs.declared.Kind.{Kind}
use Rattle.rules.specs.State.{State, slots}
use Rattle.rules.specs.Commands.{Answer, numbers_of, with_numbers, with_device, on_device, found, slot_of, limit_of, assign_at, adding, paired, assign_number}
use Rattle.rules.specs.Refusals.{NumberRefusedExactly}
use Rattle.rules.proofs.First.{found_some, found_nothing}
use Rattle.rules.proofs.Refusals.{absorbed, number_refused_exactly}
use Rattle.layout.specs.Carried.{CarriedWords}
use Rattle.layout.specs.Layout.{word_count, four, mask_at, device_in, limits_in, host_in, state_in, words_of, put_four, put_numbers, device_at, kind_at}
use Rattle.layout.proofs.Laws.{cond_below, cond_past, device_there_lem, numbers_there, words_of_lem, put_same, read_numbers, refused_carried, carried_as}
use Rattle.assignnumber.specs.Numbers.{Located, changed, assigned_to, located_in}

-- four of the record's words
four_words : {ws : List ℕ} → Sized 64 word_count ws → (k : ℕ) → Sized 64 4 (four ws k)
four_words {ws} h k = record { long = refl; small = go }
  where
    go : (q : ℕ) → get_or (four ws k) q 0 < 2 ^ 64
    go zero = h.small k
    go (suc zero) = h.small (k + 1)
    go (suc (suc zero)) = h.small (k + 2)
    go (suc (suc (suc zero))) = h.small (k + 3)
    go (suc (suc (suc (suc q)))) = omega arith

module _ (ws : List ℕ) (k : Kind) (p : ℕ) (held : Sized 64 word_count ws) (there : p < slots) where
  -- an assigned number leaves the words as they are
  pub same_words : (n : ℕ) → numbers_of k (device_in ws p) n ≡ true → ws ≡ changed ws k p (included n)
  unfolding changed put_numbers mask_at
  same_words n e =
      let at = device_at p + kind_at k in
      sym (ap (λ (m : Bits). put_numbers ws p k (words_of m))
      (absorbed n (numbers_of k (device_in ws p)) e ∙ ap (numbers_of k) (device_there_lem ws p there) ∙ numbers_there ws p k)
      ∙ ap (put_numbers ws p k) (words_of_lem (four_words held at)) ∙ cond_below p slots (put_four ws at (four ws at)) ws there ∙ put_same ws at)

  module _ (f : Bits → Bits) (m : Mask) (words : Sized 64 4 m.words) (made : bits m ≡ f (numbers_of k (device_in ws p))) where
    -- the words once a changed mask is put
    pub put_changed : put_numbers ws p k m.words ≡ changed ws k p f
    unfolding changed
    put_changed = ap (put_numbers ws p k) (sym (words_of_lem words) ∙ ap words_of made)

    -- the record that they hold
    pub read_changed : (qs : List ℕ) → state_in (changed ws k p f) qs ≡ with_device p (with_numbers k (f (numbers_of k (device_in ws p))) (device_in ws p)) (state_in ws qs)
    read_changed qs =
        ap (λ (l : List ℕ). state_in l qs) (sym put_changed) ∙ read_numbers ws qs p held.long there k m.words words.long
        ∙ ap (λ (b : Bits). with_device p (with_numbers k b (device_in ws p)) (state_in ws qs)) made

-- ---- the rule at a slot

module _ (k : Kind) (n p : ℕ) (ws qs : List ℕ) where
  -- the record with the number assigned
  abbrev numbered : State
  numbered = with_device p (with_numbers k (included n (numbers_of k (device_in ws p))) (device_in ws p)) (state_in ws qs)

  -- a number that is assigned
  pub assigned_already : numbers_of k (device_in ws p) n ≡ true → assign_at k n p (state_in ws qs) ≡ granted (state_in ws qs)
  unfolding assign_at state_in
  assigned_already e = ap (λ (b : Bool). cond b (granted (state_in ws qs)) (adding (paired k n (device_in ws p)) p (state_in ws qs) numbered)) e

  -- a new number, by the outcome for the queues that it pairs with
  pub new_number : (m : Bits) → m ≡ paired k n (device_in ws p) → numbers_of k (device_in ws p) n ≡ false
      → {o : Outcome State} → adding m p (state_in ws qs) numbered ≡ o → assign_at k n p (state_in ws qs) ≡ o
  unfolding assign_at state_in
  new_number m pairs none h =
      ap (λ (b : Bool). cond b (granted (state_in ws qs)) (adding (paired k n (device_in ws p)) p (state_in ws qs) numbered)) none
      ∙ ap (λ (b : Bits). adding b p (state_in ws qs) numbered) (sym pairs) ∙ h

-- ---- where a number goes

module _ (k : Kind) (i : Id) (n : ℕ) (ws : List ℕ) where
  -- a rule for the device with the id and the number
  abbrev asked : (ℕ → ℕ → State → Outcome State) → State → Outcome State
  asked next s = on_device i s (λ p. cond (leb n (limit_of k s.limits)) (next n p s) (refused Enodev))

  -- the same where the number goes
  abbrev placed : (ℕ → ℕ → State → Outcome State) → Located → State → Outcome State
  placed next (Ok (p, m)) s = next m p s
  placed next (Err e) s = refused e

  by_located : (next : ℕ → ℕ → State → Outcome State) (r : Located) → r ≡ located_in k i n ws → (qs : List ℕ)
      → asked next (state_in ws qs) ≡ placed next r (state_in ws qs)
  unfolding located_in on_device state_in
  by_located next r e qs = tests (ltb p slots) (leb n (limit_of k (limits_in ws))) ∙ ap (λ (x : Located). placed next x s) (sym e)
    where
      s : State
      s = state_in ws qs

      p : ℕ
      p = slot_of i (device_in ws)

      tests : (a b : Bool) → cond a (cond b (next n p s) (refused Enodev)) (refused Enoent)
          ≡ placed next (cond a (cond b (Ok (p, n)) (Err Enodev)) (Err Enoent)) s
      tests true true = refl
      tests true false = refl
      tests false b = refl

  -- a number that goes to slot p
  pub record Goes (p m : ℕ) : Type 0 where
    pub slot : p ≡ slot_of i (device_in ws)
    pub number : m ≡ n
    pub there : p < slots

  pub goes : {p m : ℕ} → Ok (p, m) ≡ located_in k i n ws → Goes p m
  unfolding located_in
  goes {p} {m} h = tests (ltb q slots) (leb n (limit_of k (limits_in ws))) refl h
    where
      q : ℕ
      q = slot_of i (device_in ws)

      tests : (a b : Bool) → ltb q slots ≡ a → ◌≡◌ {A = Located} (Ok (p, m)) (cond a (cond b (Ok (q, n)) (Err Enodev)) (Err Enoent)) → Goes p m
      tests true true e h =
          let both : ◌≡◌ {A = ℕ × ℕ} (p, m) (q, n) = cc in
          let s : p ≡ q = ap (λ (x : ℕ × ℕ). x.0) both in
          let v : m ≡ n = ap (λ (x : ℕ × ℕ). x.1) both in
          record { slot = s; number = v; there = omega (arith, ltb-true q slots e) }
      tests true false e h = let z : ◌≡◌ {A = ℕ} 0 1 = cc in absurd (omega arith)
      tests false b e h = let z : ◌≡◌ {A = ℕ} 0 1 = cc in absurd (omega arith)

  -- a rule that is carried out there, or refused
  pub at_located : (next : ℕ → ℕ → State → Outcome State) (change : ℕ → ℕ → List ℕ → List ℕ) {p m : ℕ} {vs : List ℕ} {r : Answer}
      → Ok (p, m) ≡ located_in k i n ws → CarriedWords (next m p) (change p m) ws vs r
      → CarriedWords (asked next) (λ l. change (slot_of i (device_in l)) n l) ws vs r
  at_located next change {p} {m} e c =
      carried_as (next m p) (asked next) (change p m) (λ l. change (slot_of i (device_in l)) n l) ws
      (by_located next (Ok (p, m)) e) (ap₂ (λ (j o : ℕ). change j o ws) (sym (goes e).slot) (sym (goes e).number)) c

  pub not_located : (next : ℕ → ℕ → State → Outcome State) (effect : List ℕ → List ℕ) {e : Errno}
      → Err e ≡ located_in k i n ws → CarriedWords (asked next) effect ws ws (Err e)
  not_located next effect {e} h = refused_carried (asked next) effect ws e (by_located next (Err e) h)

  -- where it goes, by what the search for the id and the test find
  pub no_device : None ≡ found (slot_of i (device_in ws)) → Err Enoent ≡ located_in k i n ws
  unfolding located_in
  no_device h = sym (cond_past (slot_of i (device_in ws)) slots _ (Err Enoent) (found_nothing h))

  pub by_range : {p : ℕ} → Some p ≡ found (slot_of i (device_in ws)) → (b : Bool) → leb n (limit_of k (limits_in ws)) ≡ b
      → cond b (Ok (p, n)) (Err Enodev) ≡ located_in k i n ws
  unfolding located_in
  by_range {p} h b t =
      let at = found_some h in
      ap (λ (c : Bool). cond c (Ok (p, n)) (Err Enodev)) (sym t)
      ∙ ap (λ (j : ℕ). cond (leb n (limit_of k (limits_in ws))) (Ok (j, n)) (Err Enodev)) at.1
      ∙ sym (cond_below (slot_of i (device_in ws)) slots _ (Err Enoent) (rw at.1 at at.0))

  -- the answer is a refusal exactly where demand 2 says
  pub exact : {vs : List ℕ} {r : Answer} → CarriedWords (assign_number k i n) (assigned_to k i n) ws vs r
      → NumberRefusedExactly k i n (limits_in ws) (host_in ws) (device_in ws) r
  unfolding state_in
  exact {vs} {r} c = number_refused_exactly k i n (state_in ws []) r (c []).answer
