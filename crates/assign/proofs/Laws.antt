-- What is asked by a text is what is asked by its number, and the other way round.
-- Assumes nothing.
use Rattle.std.proofs.Common.{Err}
use Prim.Native.Nat.{ℕ, ◌≤◌, ◌<◌, min}
use native.Mathlib.Omega.{arith}
use mathlib.Core.Bool.{Bool, true, false, cond}
use mathlib.Core.List.{List, []}
use mathlib.Core.Path.{◌≡◌, refl, sym, ap, subst, ◌∙◌}
use lib.Dec.{ltb, leb}
use borrow.Author.Tests.{leb-true, leb-false, lt-leb}
use Rattle.errno.specs.Outcome.{Outcome, granted, refused}
use Rattle.errno.specs.declared.Errno.{Errno}
use Rattle.errno.specs.declared.Errno.TheVariants.{Enoent, Enodev}
use Rattle.number.specs.Text.{number_text}
use Rattle.numeral.proofs.Laws.{says}
use Rattle.rules.specs.declared.Id.{Id}
use Rattle.rules.specs.declared.Kind.{Kind}
use Rattle.rules.specs.State.{State, slots}
use Rattle.rules.specs.Commands.{Answer, errno_of, state_after, slot_of, limit_of, on_device, reading, assign_at, unassign_at, assign, unassign, assign_number, unassign_number}
use Rattle.rules.proofs.Refusals.{refused_exactly}
use Rattle.layout.specs.Carried.{memory, memory_after, CarriedWords}
use Rattle.layout.specs.Layout.{limits_in, device_in, state_in}
use Rattle.layout.proofs.Laws.{refused_carried, carried_as}
use Rattle.admit.proofs.Laws.{limit_small}
use Rattle.assignnumber.specs.Numbers.{assigned_to, unassigned_from, AssigningNumber}
use Rattle.assign.specs.Numbers.{value, assigned, unassigned, text_of, Assigning}

module _ (k : Kind) (i : Id) (text ws : List ℕ) where
  -- with demand 2's sentence
  whole : {vs : List ℕ} {r : Answer} → CarriedWords (assign k i text) (assigned k i text) ws vs r → Assigning k i text ws vs r
  unfolding state_in
  whole {vs} {r} c = record { rule = c; exactly = refused_exactly k i text (state_in ws []) r (c []).answer }

  -- a text that says the number n
  module _ (n : ℕ) (t : number_text text ≡ granted n) where
    pub assigned_by : {vs : List ℕ} {r : Answer} → CarriedWords (assign_number k i n) (assigned_to k i n) ws vs r → Assigning k i text ws vs r
    unfolding assign reading value
    assigned_by c = whole (carried_as (assign_number k i n) (assign k i text) (assigned_to k i n) (assigned k i text) ws (λ qs. rw t) (rw t) c)

    pub unassigned_by : {vs : List ℕ} {r : Answer} → CarriedWords (unassign_number k i n) (unassigned_from k i n) ws vs r
        → CarriedWords (unassign k i text) (unassigned k i text) ws vs r
    unfolding unassign reading value
    unassigned_by c = carried_as (unassign_number k i n) (unassign k i text) (unassigned_from k i n) (unassigned k i text) ws (λ qs. rw t) (rw t) c

  -- a text that says none
  module _ (e : Errno) (t : number_text text ≡ refused e) where
    pub not_assigned : Assigning k i text ws ws (Err e)
    unfolding assign reading
    not_assigned = whole (refused_carried (assign k i text) (assigned k i text) ws e (λ qs. rw t))

    pub not_unassigned : CarriedWords (unassign k i text) (unassigned k i text) ws ws (Err e)
    unfolding unassign reading
    not_unassigned = refused_carried (unassign k i text) (unassigned k i text) ws e (λ qs. rw t)

-- ---- what is done by number is done by the number's own text

module _ (k : Kind) (i : Id) (ws : List ℕ) where
  -- a rule for the device with the id and a number
  abbrev asked : (ℕ → ℕ → State → Outcome State) → ℕ → State → Outcome State
  asked next x s = on_device i s (λ p. cond (leb x (limit_of k s.limits)) (next x p s) (refused Enodev))

  -- a number above every limit
  above : (next : ℕ → ℕ → State → Outcome State) (x : ℕ) → 65535 ≤ x → (qs : List ℕ)
      → asked next x (state_in ws qs) ≡ refused (cond (ltb (slot_of i (device_in ws)) slots) Enodev Enoent)
  unfolding on_device state_in
  above next x h qs =
      rw (lt-leb x (limit_of k (limits_in ws)) (omega (arith, limit_small k ws))) (go (ltb (slot_of i (device_in ws)) slots))
    where
      go : (b : Bool) → ◌≡◌ {A = Outcome State} (cond b (refused Enodev) (refused Enoent)) (refused (cond b Enodev Enoent))
      go true = refl
      go false = refl

  -- two rules that refuse leave the same
  both_refused : (rule rule' : State → Outcome State) (effect effect' : List ℕ → List ℕ) (e : Errno) {vs : List ℕ} {r : Answer}
      → ((qs : List ℕ) → rule (state_in ws qs) ≡ refused e) → ((qs : List ℕ) → rule' (state_in ws qs) ≡ refused e)
      → CarriedWords rule effect ws vs r → CarriedWords rule' effect' ws vs r
  unfolding memory_after
  both_refused rule rule' effect effect' e f g c =
      λ qs. record {
        answer = (c qs).answer ∙ ap errno_of (f qs ∙ sym (g qs));
        state = (c qs).state ∙ ap (state_after (state_in ws qs)) (f qs ∙ sym (g qs));
        bytes = (c qs).bytes ∙ ap (λ (o : Outcome State). memory_after (memory ws qs) o (memory (effect ws) qs)) (f qs)
            ∙ sym (ap (λ (o : Outcome State). memory_after (memory ws qs) o (memory (effect' ws) qs)) (g qs));
      }

  module _ (x : ℕ) where
    -- the text says the number, or one that is above every limit as it is
    text_says : number_text (text_of x) ≡ granted (min x 65535)
    unfolding text_of
    text_says = says (min x 65535) (omega arith)

    clipped : (next : ℕ → ℕ → State → Outcome State) (change : ℕ → List ℕ → List ℕ) {vs : List ℕ} {r : Answer}
        → CarriedWords (asked next x) (change x) ws vs r → CarriedWords (asked next (min x 65535)) (change (min x 65535)) ws vs r
    clipped next change {vs} {r} c = go (leb x 65535) refl
      where
        go : (b : Bool) → leb x 65535 ≡ b → CarriedWords (asked next (min x 65535)) (change (min x 65535)) ws vs r
        go true h =
            let small : x ≤ 65535 = leb-true x 65535 h in
            let same : x ≡ min x 65535 = omega arith in
            subst (λ (n : ℕ). CarriedWords (asked next n) (change n) ws vs r) same c
        go false h =
            let large : 65535 < x = leb-false x 65535 h in
            both_refused (asked next x) (asked next (min x 65535)) (change x) (change (min x 65535)) _ (above next x (omega arith)) (above next (min x 65535) (omega arith)) c

    module _ {vs : List ℕ} {r : Answer} where
      pub assigned_as_text : AssigningNumber k i x ws vs r → Assigning k i (text_of x) ws vs r
      assigned_as_text c = assigned_by k i (text_of x) ws (min x 65535) text_says (clipped (assign_at k) (assigned_to k i) c.rule)

      pub unassigned_as_text : CarriedWords (unassign_number k i x) (unassigned_from k i x) ws vs r
          → CarriedWords (unassign k i (text_of x)) (unassigned k i (text_of x)) ws vs r
      unassigned_as_text c = unassigned_by k i (text_of x) ws (min x 65535) text_says (clipped (unassign_at k) (unassigned_from k i) c)
