-- The service's rules and the reference model agree on every command, whatever the drivers are.
-- Assumes nothing.
use Prim.Native.Nat.{ℕ, zero, suc, ◌+◌, ◌*◌, ◌/◌, ◌%◌, ◌<◌, ◌≤◌}
use native.Mathlib.Nat.{mod-lt, div-lt_iff_lt-mul}
use native.Mathlib.Omega.{arith}
use mathlib.Core.Bool.{Bool, true, false, cond, not, ◌&&◌, ◌||◌, true≢false}
use mathlib.Core.List.{List, [], ◌∷◌}
use mathlib.Core.Path.{◌≡◌, refl, sym, ap, ap₂, ◌∙◌, fun_ext}
use lib.Dec.{eqb, ltb, leb, lit<}
use borrow.Author.Tests.{lt-ltb, le-ltb, ltb-true, ltb-false, leb-true, leb-false, eqb-true}
use Rattle.errno.specs.Outcome.{Outcome, granted, refused}
use Rattle.errno.specs.Errno.{number_of}
use Rattle.errno.specs.declared.Errno.{Errno}
use Rattle.errno.specs.declared.Errno.TheVariants.{Enoent, Ebusy, Eexist, Enodev, Einval, Enospc, Eaddrinuse, Eaddrnotavail}
use Rattle.mask.specs.Bits.{Bits, bits, some_below, both, bits_above, included, excluded, no_bits, all_bits}
use Rattle.mask.proofs.Laws.{same_test, some_intro, some_elim, none_some, some_cong}
use Rattle.number.specs.Text.{number_text}
use Rattle.masktext.specs.Text.{mask_text}
use Rattle.rules.specs.declared.Id.{Id}
use Rattle.rules.specs.declared.Kind.{Kind}
use Rattle.rules.specs.declared.Kind.TheVariants.{Adapter, Domain, Control}
use Rattle.rules.specs.declared.Configuration.{Configuration}
use Rattle.rules.specs.State.{Limits, Device, State, slots, queues, in_product, no_device, fresh}
use Rattle.rules.specs.Queues as Queues
use Rattle.rules.specs.Commands as Commands
use Rattle.rules.specs.Commands.{errno_of, state_after, slot_of, free_slot, same_id, first_from, with_device, with_host, with_config, on_device, reading, new_device, with_open, numbers_of, with_numbers, limit_of, single, paired, adding, assign_at, set_host, stored, beyond_limits, product, assigned, assigned_elsewhere}
use Rattle.rules.proofs.First.{first_holds, first_before}
use Rattle.rules.proofs.Products.{queue_apid, queue_apqi, queue_below}
use Rattle.rules.proofs.Refusals.{absorbed, same_numbers}
use Rattle.model.specs.Steps.{Command, create, remove, open_it, close_it, assign, unassign, set_apmask, set_aqmask, configure, Step, command, move, rule, after, after_all, answers, commands_of, queue_of}
use Rattle.model.specs.Model.{Model, Reply, most, some_pair, named, known, room, lowest, slot, its, holds, another_holds, some_holds, reserved, new, highest, bit_above, put, bare, nobody, marked, turned, turn, masked, given, judged, with_text, reply, start, replies, kept}

-- a state without its drivers, as the model keeps it
unfoldable pub erase : State → Model
erase s =
    record {
      highest_adapter = s.limits.adapter;
      highest_domain = s.limits.domain;
      apmask = s.host.apmask;
      aqmask = s.host.aqmask;
      adapters = s.config.adapters;
      domains = s.config.domains;
      controls = s.config.controls;
      types = s.config.types;
      device = s.device;
    }

-- ---- the two ways to look for slots and pairs

lowest_first : (n k : ℕ) (t : Bits) → lowest n k t ≡ first_from n k t
unfolding lowest first_from
lowest_first zero k t = refl
lowest_first (suc n) k t = ap (cond (t k) k) (lowest_first n (suc k) t)

-- a test holds of some number exactly if the first is one
some_first : (n : ℕ) (t : Bits) → some_below n t ≡ ltb (first_from n 0 t) n
some_first n t = same_test forth back
  where
    go : (f : (i : ℕ) × (i < n) × (t i ≡ true)) (b : Bool) → ltb (first_from n 0 t) n ≡ b → ltb (first_from n 0 t) n ≡ true
    go f true e = e
    go f false e =
        let h : n ≤ first_from n 0 t = ltb-false (first_from n 0 t) n e in
        absurd (true≢false (sym f.2 ∙ first_before n 0 t f.0 (omega arith) (omega (arith, f.1))))

    forth : some_below n t ≡ true → ltb (first_from n 0 t) n ≡ true
    forth e =
        let f = some_elim n t e in
        go f (ltb (first_from n 0 t) n) refl

    back : ltb (first_from n 0 t) n ≡ true → some_below n t ≡ true
    back e =
        let h : first_from n 0 t < n = ltb-true (first_from n 0 t) n e in
        some_intro n t (first_from n 0 t) h (first_holds n 0 t (omega arith))

-- some queue, and some pair
some_pair_lem : (f : ℕ → ℕ → Bool) → some_below queues (λ q. f (q / 256) (q % 256)) ≡ some_pair f
unfolding some_pair
some_pair_lem f = same_test forth back
  where
    forth : some_below queues (λ q. f (q / 256) (q % 256)) ≡ true → some_below 256 (λ a. some_below 256 (λ d. f a d)) ≡ true
    forth e =
        let g = some_elim queues (λ q. f (q / 256) (q % 256)) e in
        some_intro 256 (λ a. some_below 256 (λ d. f a d)) (g.0 / 256) ((div-lt_iff_lt-mul (lit< tt)).1 g.1)
        (some_intro 256 (λ d. f (g.0 / 256) d) (g.0 % 256) (mod-lt g.0 (lit< tt)) g.2)

    back : some_below 256 (λ a. some_below 256 (λ d. f a d)) ≡ true → some_below queues (λ q. f (q / 256) (q % 256)) ≡ true
    back e =
        let g = some_elim 256 (λ a. some_below 256 (λ d. f a d)) e in
        let h = some_elim 256 (λ d. f g.0 d) g.2 in
        some_intro queues (λ q. f (q / 256) (q % 256)) (g.0 * 256 + h.0) (queue_below g.0 h.0 g.1 h.1)
        (ap₂ f (queue_apid g.0 h.0 h.1) (queue_apqi g.0 h.0 h.1) ∙ h.2)

slot_same : (i : Id) (s : State) → slot i (erase s) ≡ slot_of i s.device
unfolding slot slot_of erase named same_id
slot_same i s = lowest_first slots 0 (λ p. (s.device p).present && same_id i (s.device p).id)

known_same : (i : Id) (s : State) → known i (erase s) ≡ ltb (slot_of i s.device) slots
unfolding known slot_of erase named same_id
known_same i s = some_first slots (λ p. (s.device p).present && same_id i (s.device p).id)

room_same : (s : State) → room (erase s) ≡ ltb (free_slot s.device) slots
unfolding room free_slot erase
room_same s = some_first slots (λ p. not (s.device p).present)

-- ---- agreement

-- a rule's outcome and the model's reply say the same
pub record Agrees (s : State) (o : Outcome State) (r : Reply) : Type 0 where
  pub errno : r.errno ≡ errno_of o
  pub next : r.next ≡ erase (state_after s o)

-- the model's reply where a command is refused
abbrev no : State → Errno → Reply
no s e = record { errno = number_of e; next = erase s }

refuses : (s : State) (e : Errno) → Agrees s (refused e) (no s e)
unfolding errno_of state_after
refuses s e = record { errno = refl; next = refl }

grants : (s t : State) (m : Model) → m ≡ erase t → Agrees s (granted t) (record { errno = 0; next = m })
unfolding errno_of state_after
grants s t m e = record { errno = refl; next = e }

same_way : (s : State) (b : Bool) (x y : Outcome State) (u v : Reply) → Agrees s x u → Agrees s y v → Agrees s (cond b x y) (cond b u v)
same_way s true x y u v p q = p
same_way s false x y u v p q = q

other_way : (s : State) (b : Bool) (x y : Outcome State) (u v : Reply) → Agrees s x u → Agrees s y v → Agrees s (cond b x y) (cond (not b) v u)
other_way s true x y u v p q = p
other_way s false x y u v p q = q

-- a check of the model on the id's slot, in the service's words
module _ (i : Id) (s : State) where
  abbrev p : ℕ
  p = slot_of i s.device

  -- a command for a device
  on_device_lem : (next : ℕ → Outcome State) (u : ℕ → Reply) → Agrees s (next p) (u p)
      → Agrees s (on_device i s next) (cond (not (known i (erase s))) (no s Enoent) (u (slot i (erase s))))
  unfolding on_device
  on_device_lem next u h = rw (known_same i s, slot_same i s) (other_way s (ltb p slots) _ _ _ _ h (refuses s Enoent))

-- a device put at a slot is put there in the model
put_same : (j : ℕ) (u w : Device) (s : State) → u ≡ w → put j u (erase s) ≡ erase (with_device j w s)
unfolding put erase with_device
put_same j u w s e = ap (λ (x : Device). put j x (erase s)) e

-- a new device, and an empty slot
bare_new : (i : Id) → bare true i ≡ new_device i
unfolding bare new_device no_bits
bare_new i = refl

bare_none : bare false nobody ≡ no_device
unfolding bare nobody no_device no_bits
bare_none = refl

free_same : (s : State) → lowest most 0 (λ k. not ((erase s).device k).present) ≡ free_slot s.device
unfolding erase free_slot
free_same s = lowest_first slots 0 (λ k. not (s.device k).present)

created : (i : Id) (s : State) → Agrees s (Commands.create i s) (reply (create i) (erase s))
unfolding Commands.create reply judged
created i s =
    let free = free_slot s.device in
    rw (known_same i s, room_same s, free_same s)
    (same_way s (ltb (slot_of i s.device) slots) _ _ _ _ (refuses s Eexist)
    (other_way s (ltb free slots) _ _ _ _ (grants s (with_device free (new_device i) s) _ (put_same free (bare true i) (new_device i) s (bare_new i))) (refuses s Enospc)))

removed : (i : Id) (s : State) → Agrees s (Commands.remove i s) (reply (remove i) (erase s))
unfolding Commands.remove reply judged its erase
removed i s =
    let x = slot_of i s.device in
    on_device_lem i s _ (λ x. cond (s.device x).is_open (no s Ebusy) (record { errno = 0; next = put x (bare false nobody) (erase s) }))
    (same_way s (s.device x).is_open _ _ _ _ (refuses s Ebusy) (grants s (with_device x no_device s) _ (put_same x (bare false nobody) no_device s bare_none)))

marked_open : (o : Bool) (w : Device) → marked o w ≡ with_open o w
unfolding marked with_open
marked_open o w = refl

set_open : (s : State) (o : Bool) (x : ℕ)
    → Agrees s (granted (with_device x (with_open o (s.device x)) s)) (record { errno = 0; next = put x (marked o (s.device x)) (erase s) })
set_open s o x =
    grants s (with_device x (with_open o (s.device x)) s) _ (put_same x (marked o (s.device x)) (with_open o (s.device x)) s (marked_open o (s.device x)))

opened : (i : Id) (s : State) → Agrees s (Commands.open_device i s) (reply (open_it i) (erase s))
unfolding Commands.open_device reply judged its erase
opened i s =
    let x = slot_of i s.device in
    on_device_lem i s _ (λ x. cond (s.device x).is_open (no s Ebusy) (record { errno = 0; next = put x (marked true (s.device x)) (erase s) }))
    (same_way s (s.device x).is_open _ _ _ _ (refuses s Ebusy) (set_open s true x))

closed : (i : Id) (s : State) → Agrees s (Commands.close_device i s) (reply (close_it i) (erase s))
unfolding Commands.close_device reply judged its erase
closed i s =
    let x = slot_of i s.device in
    on_device_lem i s _ (λ x. cond (not (s.device x).is_open) (no s Einval) (record { errno = 0; next = put x (marked false (s.device x)) (erase s) }))
    (other_way s (s.device x).is_open _ _ _ _ (set_open s false x) (refuses s Einval))

-- ---- text, limits and bits

with_text_lem : {A : Type 0} (s : State) (o : Outcome A) (next : A → Outcome State) (u : A → Reply) → ((a : A) → Agrees s (next a) (u a))
    → Agrees s (reading o next) (with_text o (erase s) u)
unfolding reading with_text
with_text_lem s (granted a) next u h = h a
with_text_lem s (refused e) next u h = refuses s e

above_not : (n l : ℕ) → ltb l n ≡ not (leb n l)
above_not n l = go (leb n l) refl
  where
    go : (b : Bool) → leb n l ≡ b → ltb l n ≡ not b
    go true e = le-ltb l n (leb-true n l e)
    go false e = lt-ltb l n (leb-false n l e)

highest_limit : (k : Kind) (s : State) → highest k (erase s) ≡ limit_of k s.limits
unfolding highest limit_of erase
highest_limit Adapter s = refl
highest_limit Domain s = refl
highest_limit Control s = refl

-- a number within its limit
within : (k : Kind) (n : ℕ) (s : State) (x : Outcome State) (u : Reply) → Agrees s x u
    → Agrees s (cond (leb n (limit_of k s.limits)) x (refused Enodev)) (cond (ltb (highest k (erase s)) n) (no s Enodev) u)
within k n s x u h =
    rw (highest_limit k s, above_not n (limit_of k s.limits)) (other_way s (leb n (limit_of k s.limits)) _ _ _ _ h (refuses s Enodev))

turned_on : (n : ℕ) (b : Bits) → turned true n b ≡ included n b
unfolding turned included
turned_on n b = fun_ext (λ i. go (eqb i n) (b i))
  where
    go : (e x : Bool) → cond e true x ≡ (e || x)
    go true x = refl
    go false x = refl

turned_off : (n : ℕ) (b : Bits) → turned false n b ≡ excluded n b
unfolding turned excluded
turned_off n b = fun_ext (λ i. go (eqb i n) (b i))
  where
    go : (e x : Bool) → cond e false x ≡ (not e && x)
    go true x = refl
    go false x = refl

turn_as : (o : Bool) (k : Kind) (n : ℕ) (w : Device) (b : Bits) → turned o n (numbers_of k w) ≡ b → turn o k n w ≡ with_numbers k b w
unfolding turn with_numbers numbers_of
turn_as o Adapter n w b e = ap (λ (x : Bits). with_numbers Adapter x w) e
turn_as o Domain n w b e = ap (λ (x : Bits). with_numbers Domain x w) e
turn_as o Control n w b e = ap (λ (x : Bits). with_numbers Control x w) e

-- the effect of assigning or unassigning a number
turned_same : (o : Bool) (k : Kind) (n x : ℕ) (b : Bits) (s : State) → turned o n (numbers_of k (s.device x)) ≡ b
    → put x (turn o k n (s.device x)) (erase s) ≡ erase (with_device x (with_numbers k b (s.device x)) s)
turned_same o k n x b s e = put_same x (turn o k n (s.device x)) (with_numbers k b (s.device x)) s (turn_as o k n (s.device x) b e)

unassigned : (k : Kind) (i : Id) (text : List ℕ) (s : State) → Agrees s (Commands.unassign k i text s) (reply (unassign k i text) (erase s))
unfolding Commands.unassign reply judged its erase
unassigned k i text s =
    let x = slot_of i s.device in
    with_text_lem s (number_text text) _ _
    (λ n. on_device_lem i s _
    (λ x. cond (ltb (highest k (erase s)) n) (no s Enodev) (record { errno = 0; next = put x (turn false k n (s.device x)) (erase s) }))
    (within k n s _ _
    (grants s (with_device x (with_numbers k (excluded n (numbers_of k (s.device x))) (s.device x)) s) _
    (turned_same false k n x (excluded n (numbers_of k (s.device x))) s (turned_off n (numbers_of k (s.device x)))))))

-- ---- assigning

-- the pairs that a number not yet assigned adds, as queues
new_paired : (k : Kind) (n : ℕ) (w : Device) (q : ℕ) → numbers_of k w n ≡ false → paired k n w q ≡ new k n w (q / 256) (q % 256)
unfolding paired new in_product single numbers_of no_bits
new_paired Adapter n w q e = ap (λ (b : Bool). not b && (eqb (q / 256) n && w.domains (q % 256))) (sym e)
new_paired Domain n w q e = ap (λ (b : Bool). not b && (w.adapters (q / 256) && eqb (q % 256) n)) (sym e)
new_paired Control n w q e = refl

-- a number that is assigned adds none
new_none : (k : Kind) (n : ℕ) (w : Device) (a d : ℕ) → numbers_of k w n ≡ true → new k n w a d ≡ false
unfolding new numbers_of
new_none Adapter n w a d e = ap (λ (b : Bool). not b && (eqb a n && w.domains d)) e
new_none Domain n w a d e = ap (λ (b : Bool). not b && (w.adapters a && eqb d n)) e
new_none Control n w a d e = refl

-- a pair that is nowhere
no_pair : (f : ℕ → ℕ → Bool) → ((a d : ℕ) → f a d ≡ false) → some_pair f ≡ false
unfolding some_pair
no_pair f e = none_some 256 (λ a. some_below 256 (λ d. f a d)) (λ a h. none_some 256 (λ d. f a d) (λ d l. e a d))

-- a device put where it is
put_back : (x : ℕ) (w : Device) (s : State) → w ≡ s.device x → put x w (erase s) ≡ erase s
unfolding put erase
put_back x w s e =
    ap (λ (f : ℕ → Device). erase (record { limits = s.limits; host = s.host; config = s.config; device = f; driver = s.driver }))
    (fun_ext (λ j. go j (eqb j x) refl))
  where
    go : (j : ℕ) (b : Bool) → eqb j x ≡ b → cond b w (s.device j) ≡ s.device j
    go j true h = e ∙ ap s.device (sym (eqb-true j x h))
    go j false h = refl

module _ (k : Kind) (n x : ℕ) (s : State) where
  -- some new pair is in f
  hit : (ℕ → ℕ → Bool) → Bool
  hit f = some_pair (λ a d. new k n (s.device x) a d && f a d)

  done : Reply
  done = record { errno = 0; next = put x (turn true k n (s.device x)) (erase s) }

  checked : Reply
  checked = cond (hit (reserved (erase s))) (no s Eaddrnotavail) (cond (hit (another_holds (erase s) x)) (no s Eaddrinuse) done)

  hit_new : (f : ℕ → ℕ → Bool) → numbers_of k (s.device x) n ≡ false → some_below queues (λ q. paired k n (s.device x) q && f (q / 256) (q % 256)) ≡ hit f
  unfolding hit
  hit_new f e =
      some_cong queues (λ q. paired k n (s.device x) q && f (q / 256) (q % 256)) (λ q. new k n (s.device x) (q / 256) (q % 256) && f (q / 256) (q % 256))
      (λ q h. ap (λ (b : Bool). b && f (q / 256) (q % 256)) (new_paired k n (s.device x) q e))
      ∙ some_pair_lem (λ a d. new k n (s.device x) a d && f a d)

  hit_none : (f : ℕ → ℕ → Bool) → numbers_of k (s.device x) n ≡ true → hit f ≡ false
  unfolding hit
  hit_none f e = no_pair _ (λ a d. ap (λ (b : Bool). b && f a d) (new_none k n (s.device x) a d e))

  at_slot : (b : Bool) → numbers_of k (s.device x) n ≡ b
      → Agrees s
      (cond b (granted s) (adding (paired k n (s.device x)) x s (with_device x (with_numbers k (included n (numbers_of k (s.device x))) (s.device x)) s)))
      checked
  unfolding checked done adding both Queues.reserved in_product assigned_elsewhere product reserved another_holds holds erase
  at_slot true e =
      let m = numbers_of k (s.device x) in
      rw (hit_none (reserved (erase s)) e, hit_none (another_holds (erase s) x) e)
      (grants s s _ (put_back x (turn true k n (s.device x)) s (turn_as true k n (s.device x) m (turned_on n m ∙ absorbed n m e) ∙ same_numbers k (s.device x))))
  at_slot false e =
      let m = included n (numbers_of k (s.device x)) in
      rw (hit_new (reserved (erase s)) e, hit_new (another_holds (erase s) x) e)
      (same_way s (hit (reserved (erase s))) _ _ _ _ (refuses s Eaddrnotavail)
      (same_way s (hit (another_holds (erase s) x)) _ _ _ _ (refuses s Eaddrinuse)
      (grants s (with_device x (with_numbers k m (s.device x)) s) _ (turned_same true k n x m s (turned_on n (numbers_of k (s.device x)))))))

assigned_same : (k : Kind) (i : Id) (text : List ℕ) (s : State) → Agrees s (Commands.assign k i text s) (reply (assign k i text) (erase s))
unfolding Commands.assign assign_at reply judged its erase checked done hit
assigned_same k i text s =
    let x = slot_of i s.device in
    with_text_lem s (number_text text) _ _
    (λ n. on_device_lem i s _ (λ x. cond (ltb (highest k (erase s)) n) (no s Enodev) (checked k n x s))
    (within k n s (assign_at k n x s) (checked k n x s) (at_slot k n x s (numbers_of k (s.device x) n) refl)))

-- ---- the host's masks and the configuration

masked_same : (ap aq : Bits) (s : State)
    → Agrees s (set_host (record { apmask = ap; aqmask = aq }) s)
    (cond (some_pair (λ a d. (ap a && aq d) && some_holds (erase s) a d)) (no s Eaddrinuse) (record { errno = 0; next = masked ap aq (erase s) }))
unfolding set_host both Queues.reserved in_product assigned product some_holds holds erase masked with_host
masked_same ap aq s =
    let hit : ℕ → ℕ → Bool = λ a d. (ap a && aq d) && some_holds (erase s) a d in
    rw (some_pair_lem hit)
    (same_way s (some_pair hit) _ _ _ _ (refuses s Eaddrinuse) (grants s (with_host (record { apmask = ap; aqmask = aq }) s) (masked ap aq (erase s)) refl))

apmask_same : (text : List ℕ) (s : State) → Agrees s (Commands.set_apmask text s) (reply (set_apmask text) (erase s))
unfolding Commands.set_apmask reply judged erase
apmask_same text s =
    with_text_lem s (mask_text text s.host.apmask) (λ b. set_host (record { apmask = b; aqmask = s.host.aqmask }) s) _ (λ b. masked_same b s.host.aqmask s)

aqmask_same : (text : List ℕ) (s : State) → Agrees s (Commands.set_aqmask text s) (reply (set_aqmask text) (erase s))
unfolding Commands.set_aqmask reply judged erase
aqmask_same text s =
    with_text_lem s (mask_text text s.host.aqmask) (λ b. set_host (record { apmask = s.host.apmask; aqmask = b }) s) _ (λ b. masked_same s.host.apmask b s)

above_same : (limit : ℕ) (b : Bits) → some_below 256 (both b (bits_above limit)) ≡ bit_above limit b
unfolding both bits_above bit_above
above_same limit b =
    some_cong 256 (λ i. b i && (ltb limit i && ltb i 256)) (λ i. b i && ltb limit i)
    (λ i h. ap (λ (x : Bool). b i && (ltb limit i && x)) (lt-ltb i 256 h) ∙ ap (λ (x : Bool). b i && x) (mathlib.Core.Bool.and-true (ltb limit i)))

three_ways : (s : State) (x y z : Bool) (g : Outcome State) (u d : Reply) → Agrees s (refused Enodev) u → Agrees s g d
    → Agrees s (cond (x || y || z) (refused Enodev) g) (cond x u (cond y u (cond z u d)))
three_ways s true y z g u d p q = p
three_ways s false true z g u d p q = p
three_ways s false false true g u d p q = p
three_ways s false false false g u d p q = q

given_same : (c : Configuration) (s : State) → given c (erase s) ≡ erase (with_config (stored c) s)
unfolding given erase with_config stored
given_same c s = refl

configured_same : (c : Configuration) (s : State) → Agrees s (Commands.configure c s) (reply (configure c) (erase s))
unfolding Commands.configure reply judged beyond_limits erase
configured_same c s =
    let l = s.limits in
    rw (above_same l.adapter (bits c.adapters), above_same l.domain (bits c.domains), above_same l.domain (bits c.controls))
    (three_ways s (bit_above l.adapter (bits c.adapters)) (bit_above l.domain (bits c.domains)) (bit_above l.domain (bits c.controls)) _ _ _
    (refuses s Enodev) (grants s (with_config (stored c) s) (given c (erase s)) (given_same c s)))

-- ---- every command, and every list

pub agree : (c : Command) (s : State) → Agrees s (rule c s) (reply c (erase s))
unfolding rule
agree (create i) s = created i s
agree (remove i) s = removed i s
agree (open_it i) s = opened i s
agree (close_it i) s = closed i s
agree (assign k i text) s = assigned_same k i text s
agree (unassign k i text) s = unassigned k i text s
agree (set_apmask text) s = apmask_same text s
agree (set_aqmask text) s = aqmask_same text s
agree (configure c) s = configured_same c s

-- a move changes nothing that the model keeps
pub erase_move : (q : ℕ) (s : State) → erase (Queues.move q s) ≡ erase s
unfolding erase Queues.move
erase_move q s = refl

-- the answers to the commands of a list are the model's
pub all_answers : (steps : List Step) (s : State) → answers steps s ≡ replies (commands_of steps) (erase s)
unfolding answers replies commands_of
all_answers [] s = refl
all_answers (command c ∷ steps) s =
    ap₂ (λ (e : ℕ) (es : List ℕ). e ∷ es) (sym (agree c s).errno)
    (all_answers steps (state_after s (rule c s)) ∙ ap (replies (commands_of steps)) (sym (agree c s).next))
all_answers (move a d ∷ steps) s = all_answers steps (Queues.move (queue_of a d) s) ∙ ap (replies (commands_of steps)) (erase_move (queue_of a d) s)

-- what the model keeps is the state without its drivers
pub all_kept : (steps : List Step) (s : State) → kept (commands_of steps) (erase s) ≡ erase (after_all steps s)
unfolding kept commands_of after_all after
all_kept [] s = refl
all_kept (command c ∷ steps) s = ap (kept (commands_of steps)) (agree c s).next ∙ all_kept steps (state_after s (rule c s))
all_kept (move a d ∷ steps) s = ap (kept (commands_of steps)) (sym (erase_move (queue_of a d) s)) ∙ all_kept steps (Queues.move (queue_of a d) s)

-- at first the model keeps what the fresh state does
pub erase_fresh : (l : Limits) → erase (fresh l) ≡ start l.adapter l.domain
unfolding erase fresh start bare nobody no_device all_bits no_bits
erase_fresh l = refl
