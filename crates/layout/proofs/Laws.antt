-- The record's parts, read after they are put; the words of a mask; a command that is carried out.
-- Assumes nothing.
use Rattle.std.proofs.Common.{Ok, Err}
use Prim.Native.Nat.{ℕ, zero, suc, ◌+◌, ◌-◌, ◌≤◌, ◌<◌, min, max}
use native.Mathlib.Nat.{zero-add, le_of_suc-le-suc, not-suc-le-zero, eq-or-lt_of_le, min-eq_left}
use native.Mathlib.Numerals.{add-one}
use native.Mathlib.Omega.{arith}
use mathlib.Core.Path.{◌≡◌, refl, sym, ap, ap₂, ◌∙◌, fun_ext}
use mathlib.Core.Logic.{◌≢◌, ◌⊎◌, inl, inr}
use mathlib.Core.Bool.{Bool, true, false, cond}
use mathlib.Core.List.{List, [], ◌∷◌}
use lib.ListN.{length, get_or, set, replicate, length-set, get_or-eq_default}
use lib.Seq.{get_or-set_same, get_or-set_other, get_or-append-add, set-get_or, ext_get_or}
use lib.Dec.{eqb, ltb}
use borrow.Author.Tests.{ltb-true, ltb-false, eqb-true, eqb-false, lt-ltb, le-ltb}
use mir.Val.{Val}
use denote.Laws.{Is}
use Rattle.errno.specs.declared.Errno.{Errno}
use Rattle.errno.specs.Outcome.{Outcome, granted, refused}
use Rattle.mask.specs.declared.Mask.{Mask}
use Rattle.mask.specs.contracts.Mask.{the_row}
use Rattle.mask.specs.Bits.{Sized, Bits, bits, bit_at, no_bits, all_bits, number, numbers}
use Rattle.mask.proofs.Laws.{zero_bits, one_bits, past_end, mask_words_lem, numbers_words, numbers_bits, numbers_of_bits, below_four}
use Rattle.rules.specs.declared.Kind.{Kind}
use Rattle.rules.specs.declared.Kind.TheVariants.{Adapter, Domain, Control}
use Rattle.rules.specs.declared.Driver.{Driver}
use Rattle.rules.specs.declared.Driver.TheVariants.{Unbound, Host, Passthrough}
use Rattle.rules.specs.declared.Id.{Id}
use Rattle.rules.specs.declared.Configuration.{Configuration}
use Rattle.rules.specs.State.{HostMasks, Device, State, slots, queues, no_device, fresh}
use Rattle.rules.specs.Queues.{rebound}
use Rattle.rules.specs.Commands.{Answer, numbers_of, with_device, with_host, with_numbers, with_open, new_device, with_config, stored, errno_of, state_after}
use Rattle.layout.specs.Layout.{word_count, four, mask_at, flag, driver_of, byte_of, limits_in, host_in, config_in, device_in, state_in, words_of, put_four, put_numbers, put_open, put_device, put_types, put_config, fresh_words, unbind, taken_away, apmask_at, aqmask_at, config_at, types_at, device_at, kind_at, no_id, zeros, ones}
use Rattle.layout.specs.Carried.{Memory, memory, read, on_words, memory_after, Carried, CarriedWords}

-- a choice by an order that is known
pub cond_below : {A : Type 0} (p n : ℕ) (a b : A) → p < n → cond (ltb p n) a b ≡ a
cond_below {A} p n a b h = ap (λ (t : Bool). cond {A = A} t a b) (lt-ltb p n h)

pub cond_past : {A : Type 0} (p n : ℕ) (a b : A) → n ≤ p → cond (ltb p n) a b ≡ b
cond_past {A} p n a b h = ap (λ (t : Bool). cond {A = A} t a b) (le-ltb p n h)

-- a choice that is one value either way
pub cond_both : {A : Type 0} (t : Bool) (a : A) → cond t a a ≡ a
cond_both true a = refl
cond_both false a = refl

-- ---- a device's slot

-- the device at one of the slots
abbrev pub device_there : List ℕ → ℕ → Device
device_there ws p =
    record {
      present = flag (get_or ws (device_at p) 0);
      is_open = flag (get_or ws (device_at p + 1) 0);
      id = record { hi = get_or ws (device_at p + 2) 0; lo = get_or ws (device_at p + 3) 0 };
      adapters = mask_at ws (device_at p + 4);
      domains = mask_at ws (device_at p + 8);
      controls = mask_at ws (device_at p + 12);
    }

pub device_there_lem : (ws : List ℕ) (p : ℕ) → p < slots → device_in ws p ≡ device_there ws p
unfolding device_in
device_there_lem ws p h = cond_below p slots (device_there ws p) no_device h

pub device_past : (ws : List ℕ) (p : ℕ) → slots ≤ p → device_in ws p ≡ no_device
unfolding device_in
device_past ws p h = cond_past p slots (device_there ws p) no_device h

pub numbers_there : (ws : List ℕ) (p : ℕ) (k : Kind) → numbers_of k (device_there ws p) ≡ mask_at ws (device_at p + kind_at k)
unfolding numbers_of
numbers_there ws p Adapter = refl
numbers_there ws p Domain = refl
numbers_there ws p Control = refl

pub kind_small : (k : Kind) → kind_at k ≤ 12
kind_small Adapter = omega arith
kind_small Domain = omega arith
kind_small Control = omega arith

-- ---- four words

-- the m words from word k on lie apart from the n words from word a on: one ends where the other begins, or before
abbrev pub Apart : (a n k m : ℕ) → Type 0
Apart a n k m = min (k + m) (a + n) ≤ max k a

-- the first one, two and three of four words put
abbrev pub put1 : List ℕ → ℕ → List ℕ → List ℕ
put1 ws k m = set ws k (get_or m 0 0)

abbrev pub put2 : List ℕ → ℕ → List ℕ → List ℕ
put2 ws k m = set (put1 ws k m) (k + 1) (get_or m 1 0)

abbrev pub put3 : List ℕ → ℕ → List ℕ → List ℕ
put3 ws k m = set (put2 ws k m) (k + 2) (get_or m 2 0)

pub word_other : (ws : List ℕ) (k : ℕ) (m : List ℕ) (j : ℕ) → Apart k 4 j 1 → get_or (put_four ws k m) j 0 ≡ get_or ws j 0
unfolding put_four
word_other ws k m j h =
    get_or-set_other (put3 ws k m) (k + 3) j (get_or m 3 0) 0 (omega arith) ∙ get_or-set_other (put2 ws k m) (k + 2) j (get_or m 2 0) 0 (omega arith)
    ∙ get_or-set_other (put1 ws k m) (k + 1) j (get_or m 1 0) 0 (omega arith) ∙ get_or-set_other ws k j (get_or m 0 0) 0 (omega arith)

pub put_length : (ws : List ℕ) (k : ℕ) (m : List ℕ) → length (put_four ws k m) ≡ length ws
unfolding put_four
put_length ws k m = simp length-set

four_path : {a b c d a' b' c' d' : ℕ} → a ≡ a' → b ≡ b' → c ≡ c' → d ≡ d' → ◌≡◌ {A = List ℕ} (a ∷ b ∷ c ∷ d ∷ []) (a' ∷ b' ∷ c' ∷ d' ∷ [])
four_path p q r s = λ i. p i ∷ q i ∷ r i ∷ s i ∷ []

-- four words are the list of them
pub four_of : (m : List ℕ) → length m ≡ 4 → get_or m 0 0 ∷ get_or m 1 0 ∷ get_or m 2 0 ∷ get_or m 3 0 ∷ [] ≡ m
four_of m e =
    ext_get_or 0 (get_or m 0 0 ∷ get_or m 1 0 ∷ get_or m 2 0 ∷ get_or m 3 0 ∷ []) m (sym e)
    (below_four (λ q. get_or (get_or m 0 0 ∷ get_or m 1 0 ∷ get_or m 2 0 ∷ get_or m 3 0 ∷ []) q 0 ≡ get_or m q 0) refl refl refl refl)

pub put_get : (ws : List ℕ) (k : ℕ) (m : List ℕ) → k + 3 < length ws → length m ≡ 4 → four (put_four ws k m) k ≡ m
unfolding put_four
put_get ws k m h e =
    four_path
    (get_or-set_other (put3 ws k m) (k + 3) k (get_or m 3 0) 0 (omega arith) ∙ get_or-set_other (put2 ws k m) (k + 2) k (get_or m 2 0) 0 (omega arith)
    ∙ get_or-set_other (put1 ws k m) (k + 1) k (get_or m 1 0) 0 (omega arith) ∙ get_or-set_same ws k (get_or m 0 0) 0 (omega arith))
    (get_or-set_other (put3 ws k m) (k + 3) (k + 1) (get_or m 3 0) 0 (omega arith)
    ∙ get_or-set_other (put2 ws k m) (k + 2) (k + 1) (get_or m 2 0) 0 (omega arith)
    ∙ get_or-set_same (put1 ws k m) (k + 1) (get_or m 1 0) 0 (simp length-set (omega arith)))
    (get_or-set_other (put3 ws k m) (k + 3) (k + 2) (get_or m 3 0) 0 (omega arith)
    ∙ get_or-set_same (put2 ws k m) (k + 2) (get_or m 2 0) 0 (simp length-set (omega arith)))
    (get_or-set_same (put3 ws k m) (k + 3) (get_or m 3 0) 0 (simp length-set (omega arith)))
    ∙ four_of m e

pub put_same : (ws : List ℕ) (k : ℕ) → put_four ws k (four ws k) ≡ ws
unfolding put_four
put_same ws k = simp set-get_or

-- ---- words that differ in a stretch

-- the words vs are the words ws but for the n words from word a on
pub record Off (a n : ℕ) (ws vs : List ℕ) : Type 0 where
  pub at : (j : ℕ) → Apart a n j 1 → get_or vs j 0 ≡ get_or ws j 0

pub off_wider : {a n : ℕ} {ws vs : List ℕ} (b m : ℕ) → Off a n ws vs → b ≤ a → a + n ≤ b + m → Off b m ws vs
off_wider b m o h l = record { at = λ j s. o.at j (omega arith) }

pub off_then : {a n : ℕ} {ws vs us : List ℕ} → Off a n ws vs → Off a n vs us → Off a n ws us
off_then o r = record { at = λ j s. r.at j s ∙ o.at j s }

pub off_four : (ws : List ℕ) (k : ℕ) (m : List ℕ) → Off k 4 ws (put_four ws k m)
off_four ws k m = record { at = λ j h. word_other ws k m j h }

pub off_set : (ws : List ℕ) (k v : ℕ) → Off k 1 ws (set ws k v)
off_set ws k v = record { at = λ j h. get_or-set_other ws k j v 0 (omega arith) }

same_device : (v w : Device) → v.present ≡ w.present → v.is_open ≡ w.is_open → v.id ≡ w.id → v.adapters ≡ w.adapters
    → v.domains ≡ w.domains → v.controls ≡ w.controls → v ≡ w
same_device v w a b c d e f = λ i. record { present = a i; is_open = b i; id = c i; adapters = d i; domains = e i; controls = f i }

same_id : {a b a' b' : ℕ} → a ≡ a' → b ≡ b' → ◌≡◌ {A = Id} (record { hi = a; lo = b }) (record { hi = a'; lo = b' })
same_id p q = λ i. record { hi = p i; lo = q i }

same_state : (s t : State) → s.limits ≡ t.limits → s.host ≡ t.host → s.config ≡ t.config → s.device ≡ t.device → s.driver ≡ t.driver → s ≡ t
same_state s t a b c d e = λ i. record { limits = a i; host = b i; config = c i; device = d i; driver = e i }

-- what is read apart from the stretch is as it was
module _ {a n : ℕ} {ws vs : List ℕ} (o : Off a n ws vs) where
  pub four_off : (k : ℕ) → Apart a n k 4 → four vs k ≡ four ws k
  four_off k h = four_path (o.at k (omega arith)) (o.at (k + 1) (omega arith)) (o.at (k + 2) (omega arith)) (o.at (k + 3) (omega arith))

  pub mask_off : (k : ℕ) → Apart a n k 4 → mask_at vs k ≡ mask_at ws k
  unfolding mask_at
  mask_off k h = ap (bit_at 64) (four_off k h)

  pub limits_off : 2 ≤ a → limits_in vs ≡ limits_in ws
  unfolding limits_in
  limits_off h = simp (o.at 0 (omega arith), o.at 1 (omega arith))

  pub host_off : 10 ≤ a → host_in vs ≡ host_in ws
  unfolding host_in
  host_off h = simp (mask_off apmask_at (omega arith), mask_off aqmask_at (omega arith))

  pub config_off : Apart a n 10 268 → config_in vs ≡ config_in ws
  unfolding config_in
  config_off h =
      let p = mask_off 10 (omega arith) in
      let q = mask_off 14 (omega arith) in
      let r = mask_off 18 (omega arith) in
      let t = fun_ext (λ j. types j (ltb j 256) refl) in
      λ i. record { adapters = p i; domains = q i; controls = r i; types = t i }
    where
      types : (j : ℕ) (b : Bool) → ltb j 256 ≡ b → cond b (get_or vs (types_at + j) 0) 0 ≡ cond b (get_or ws (types_at + j) 0) 0
      types j true e = let s : j < 256 = ltb-true j 256 e in o.at (types_at + j) (omega arith)
      types j false e = refl

  pub device_off : (p : ℕ) → Apart a n (device_at p) 16 → device_in vs p ≡ device_in ws p
  unfolding device_in
  device_off p h = ap (λ (v : Device). cond (ltb p slots) v no_device) there
    where
      k : ℕ
      k = device_at p

      there : device_there vs p ≡ device_there ws p
      there =
          same_device (device_there vs p) (device_there ws p) (ap flag (o.at k (omega arith))) (ap flag (o.at (k + 1) (omega arith)))
          (same_id (o.at (k + 2) (omega arith)) (o.at (k + 3) (omega arith))) (mask_off (k + 4) (omega arith)) (mask_off (k + 8) (omega arith))
          (mask_off (k + 12) (omega arith))

-- a mask apart from four words that are put
pub put_other : (ws : List ℕ) (k : ℕ) (m : List ℕ) (j : ℕ) → Apart k 4 j 4 → four (put_four ws k m) j ≡ four ws j
put_other ws k m j h = four_off (off_four ws k m) j h

-- ---- types and driver bytes, one by one

-- one type more
pub types_next : (ws vs : List ℕ) (f : ℕ → ℕ) (n v : ℕ) → vs ≡ put_types ws f n → v ≡ f n → set vs (types_at + n) v ≡ put_types ws f (n + 1)
unfolding put_types
types_next ws vs f n v e h = ap₂ (λ (l : List ℕ) (x : ℕ). set l (types_at + n) x) e h ∙ ap (put_types ws f) (sym (add-one n))

pub types_length : (ws : List ℕ) (f : ℕ → ℕ) (n : ℕ) → length (put_types ws f n) ≡ length ws
unfolding put_types
types_length ws f zero = refl
types_length ws f (suc n) = length-set (put_types ws f n) (types_at + n) (f n) ∙ types_length ws f n

pub off_types : (ws : List ℕ) (f : ℕ → ℕ) (n : ℕ) → Off types_at n ws (put_types ws f n)
unfolding put_types
off_types ws f zero = record { at = λ j h. refl }
off_types ws f (suc n) =
    off_then (off_wider types_at (suc n) (off_types ws f n) (omega arith) (omega arith))
    (off_wider types_at (suc n) (off_set (put_types ws f n) (types_at + n) (f n)) (omega arith) (omega arith))

pub types_at_lem : (ws : List ℕ) (f : ℕ → ℕ) (n a : ℕ) → types_at + n ≤ length ws → a < n → get_or (put_types ws f n) (types_at + a) 0 ≡ f a
unfolding put_types
types_at_lem ws f zero a l h = absurd (not-suc-le-zero h)
types_at_lem ws f (suc n) a l h = go (eq-or-lt_of_le (le_of_suc-le-suc h)) (types_at_lem ws f n a (omega arith))
  where
    go : (a ≡ n) ⊎ (a < n) → (a < n → get_or (put_types ws f n) (types_at + a) 0 ≡ f a) → get_or (set (put_types ws f n) (types_at + n) (f n)) (types_at + a) 0 ≡ f a
    go (inl e) rest =
        ap (λ (i : ℕ). get_or (set (put_types ws f n) (types_at + n) (f n)) (types_at + i) 0) e
        ∙ get_or-set_same (put_types ws f n) (types_at + n) (f n) 0 (omega (arith, types_length ws f n)) ∙ ap f (sym e)
    go (inr s) rest = get_or-set_other (put_types ws f n) (types_at + n) (types_at + a) (f n) 0 (omega arith) ∙ rest s

pub unbind_length : (qs : List ℕ) (gone : Bits) (n : ℕ) → length (unbind qs gone n) ≡ length qs
unfolding unbind
unbind_length qs gone zero = refl
unbind_length qs gone (suc n) = go (gone n) (unbind_length qs gone n)
  where
    go : (b : Bool) → length (unbind qs gone n) ≡ length qs → length (cond b (set (unbind qs gone n) n 0) (unbind qs gone n)) ≡ length qs
    go true e = length-set (unbind qs gone n) n 0 ∙ e
    go false e = e

-- what is not reached yet is as it was
pub unbind_above : (qs : List ℕ) (gone : Bits) (n q : ℕ) → n ≤ q → get_or (unbind qs gone n) q 0 ≡ get_or qs q 0
unfolding unbind
unbind_above qs gone zero q h = refl
unbind_above qs gone (suc n) q h = go (gone n) (unbind_above qs gone n q (omega arith))
  where
    go : (b : Bool) → get_or (unbind qs gone n) q 0 ≡ get_or qs q 0 → get_or (cond b (set (unbind qs gone n) n 0) (unbind qs gone n)) q 0 ≡ get_or qs q 0
    go true e = get_or-set_other (unbind qs gone n) n q 0 0 (omega arith) ∙ e
    go false e = e

pub unbind_at : (qs : List ℕ) (gone : Bits) (n q : ℕ) → n ≤ length qs → q < n → get_or (unbind qs gone n) q 0 ≡ cond (gone q) 0 (get_or qs q 0)
unfolding unbind
unbind_at qs gone zero q l h = absurd (not-suc-le-zero h)
unbind_at qs gone (suc n) q l h = go (gone n) refl (eq-or-lt_of_le (le_of_suc-le-suc h)) (unbind_at qs gone n q (omega arith))
  where
    go : (b : Bool) → gone n ≡ b → (q ≡ n) ⊎ (q < n) → (q < n → get_or (unbind qs gone n) q 0 ≡ cond (gone q) 0 (get_or qs q 0))
        → get_or (cond b (set (unbind qs gone n) n 0) (unbind qs gone n)) q 0 ≡ cond (gone q) 0 (get_or qs q 0)
    go true e (inl r) rest =
        ap (λ (i : ℕ). get_or (set (unbind qs gone n) n 0) i 0) r
        ∙ get_or-set_same (unbind qs gone n) n 0 0 (omega (arith, unbind_length qs gone n))
        ∙ ap (λ (b : Bool). cond b 0 (get_or qs q 0)) (sym (ap gone r ∙ e))
    go false e (inl r) rest =
        unbind_above qs gone n q (omega arith) ∙ ap (λ (b : Bool). cond b 0 (get_or qs q 0)) (sym (ap gone r ∙ e))
    go true e (inr s) rest = get_or-set_other (unbind qs gone n) n q 0 0 (omega arith) ∙ rest s
    go false e (inr s) rest = rest s

-- the words of a slot that is given: the first four, then three masks
abbrev first_four : Bool → Id → List ℕ
first_four t i = cond t 1 0 ∷ 0 ∷ i.hi ∷ i.lo ∷ []

abbrev slot_words : List ℕ → ℕ → Bool → Id → List ℕ
slot_words ws p t i =
    put_four (put_four (put_four (put_four ws (device_at p) (first_four t i)) (device_at p + 4) zeros) (device_at p + 8) zeros) (device_at p + 12) zeros

-- ---- the words of masks

-- four words with all bits set
abbrev pub all_ones : List ℕ
all_ones = ones ∷ ones ∷ ones ∷ ones ∷ []

-- the mask of words is the words
pub words_of_lem : {m : List ℕ} → Sized 64 4 m → words_of (bit_at 64 m) ≡ m
unfolding words_of
words_of_lem h = numbers_of_bits (omega arith) h

-- a mask with no bit, or with all, has these words
words_are : (m : Mask) {vs : List Val} {b : Bits} → Is the_row m vs → bits m ≡ b → m.words ≡ words_of b
words_are m h e = sym (words_of_lem (mask_words_lem m h)) ∙ ap words_of e

pub empty_words : (m : Mask) {vs : List Val} → Is the_row m vs → bits m ≡ no_bits → m.words ≡ zeros
unfolding words_of numbers number no_bits
empty_words m h e = words_are m h e

pub full_words : (m : Mask) {vs : List Val} → Is the_row m vs → bits m ≡ all_bits → m.words ≡ all_ones
unfolding words_of numbers number all_bits
full_words m h e = words_are m h e

pub words_bits : (m : Bits) → ((i : ℕ) → 256 ≤ i → m i ≡ false) → bit_at 64 (words_of m) ≡ m
unfolding words_of
words_bits m none = fun_ext (λ i. go i (ltb i 256) refl)
  where
    go : (i : ℕ) (b : Bool) → ltb i 256 ≡ b → bit_at 64 (numbers 64 4 m 0) i ≡ m i
    go i true e = numbers_bits 64 4 m 0 i (omega arith) (ltb-true i 256 e) ∙ ap m (zero-add i)
    go i false e = past_end i (omega arith) (numbers_words 64 4 m 0) (ltb-false i 256 e) ∙ sym (none i (ltb-false i 256 e))

-- ---- the state after a put

-- words that differ in the host's masks hold the state with those replaced
pub read_host : {ws vs : List ℕ} (qs : List ℕ) (h : HostMasks) → Off 2 8 ws vs → host_in vs ≡ h → state_in vs qs ≡ with_host h (state_in ws qs)
unfolding state_in with_host
read_host {ws} {vs} qs h o e =
    same_state (state_in vs qs) (with_host h (state_in ws qs)) (limits_off o (omega arith)) e (config_off o (omega arith))
    (fun_ext (λ p. device_off o p (omega arith))) refl

module _ (ws qs m : List ℕ) (long : length ws ≡ word_count) (four_words : length m ≡ 4) where
  pub read_apmask : state_in (put_four ws apmask_at m) qs ≡ with_host (record { apmask = bit_at 64 m; aqmask = (host_in ws).aqmask }) (state_in ws qs)
  unfolding host_in mask_at
  read_apmask =
      let o = off_four ws apmask_at m in
      read_host qs _ (off_wider 2 8 o (omega arith) (omega arith)) (simp (put_get ws apmask_at m (omega arith) four_words, four_off o aqmask_at (omega arith)))

  pub read_aqmask : state_in (put_four ws aqmask_at m) qs ≡ with_host (record { apmask = (host_in ws).apmask; aqmask = bit_at 64 m }) (state_in ws qs)
  unfolding host_in mask_at
  read_aqmask =
      let o = off_four ws aqmask_at m in
      read_host qs _ (off_wider 2 8 o (omega arith) (omega arith)) (simp (put_get ws aqmask_at m (omega arith) four_words, four_off o apmask_at (omega arith)))

-- words that differ at one slot hold the state with that device replaced
pub read_device : {ws vs : List ℕ} (qs : List ℕ) (p : ℕ) (v : Device) → p < slots → Off (device_at p) 16 ws vs → device_in vs p ≡ v
    → state_in vs qs ≡ with_device p v (state_in ws qs)
unfolding state_in with_device
read_device {ws} {vs} qs p v h o e =
    same_state (state_in vs qs) (with_device p v (state_in ws qs)) (limits_off o (omega arith)) (host_off o (omega arith)) (config_off o (omega arith))
    (fun_ext (λ j. go j (eqb j p) refl)) refl
  where
    other : (j : ℕ) (b : Bool) → ltb j p ≡ b → j ≢ p → device_in vs j ≡ device_in ws j
    other j true t n = let l : j < p = ltb-true j p t in device_off o j (omega arith)
    other j false t n = let l : p ≤ j = ltb-false j p t in device_off o j (omega arith)

    go : (j : ℕ) (b : Bool) → eqb j p ≡ b → device_in vs j ≡ cond b v (device_in ws j)
    go j true t = ap (device_in vs) (eqb-true j p t) ∙ e
    go j false t = other j (ltb j p) refl (eqb-false j p t)

-- a device that nothing is assigned to
abbrev given_device : Bool → Id → Device
given_device t i = record { present = t; is_open = false; id = i; adapters = no_bits; domains = no_bits; controls = no_bits }

flag_of : (t : Bool) → flag (cond t 1 0) ≡ t
unfolding flag
flag_of true = refl
flag_of false = refl

module _ (ws : List ℕ) (qs : List ℕ) (p : ℕ) (long : length ws ≡ word_count) (there : p < slots) where
  -- a device whose mask of a kind is put
  device_numbers : (k : Kind) (m vs : List ℕ) → Off (device_at p + kind_at k) 4 ws vs → mask_at vs (device_at p + kind_at k) ≡ bit_at 64 m
      → device_there vs p ≡ with_numbers k (bit_at 64 m) (device_there ws p)
  unfolding with_numbers
  device_numbers k m vs o e = go k o e
    where
      first : (j : ℕ) → Off j 4 ws vs → device_at p + 4 ≤ j → device_there vs p ≡ record {
        present = (device_there ws p).present;
        is_open = (device_there ws p).is_open;
        id = (device_there ws p).id;
        adapters = (device_there vs p).adapters;
        domains = (device_there vs p).domains;
        controls = (device_there vs p).controls;
      }
      first j o h =
          simp (o.at (device_at p) (omega arith), o.at (device_at p + 1) (omega arith), o.at (device_at p + 2) (omega arith), o.at (device_at p + 3) (omega arith))

      go : (k : Kind) → Off (device_at p + kind_at k) 4 ws vs → mask_at vs (device_at p + kind_at k) ≡ bit_at 64 m
          → device_there vs p ≡ with_numbers k (bit_at 64 m) (device_there ws p)
      go Adapter o e = first (device_at p + 4) o (omega arith) ∙ simp (e, mask_off o (device_at p + 8) (omega arith), mask_off o (device_at p + 12) (omega arith))
      go Domain o e = first (device_at p + 8) o (omega arith) ∙ simp (e, mask_off o (device_at p + 4) (omega arith), mask_off o (device_at p + 12) (omega arith))
      go Control o e = first (device_at p + 12) o (omega arith) ∙ simp (e, mask_off o (device_at p + 4) (omega arith), mask_off o (device_at p + 8) (omega arith))

  pub read_numbers : (k : Kind) (m : List ℕ) → length m ≡ 4 → state_in (put_numbers ws p k m) qs ≡ with_device p (with_numbers k (bit_at 64 m) (device_in ws p)) (state_in ws qs)
  unfolding put_numbers mask_at
  read_numbers k m e =
      let at = device_at p + kind_at k in
      let small = kind_small k in
      ap (λ (vs : List ℕ). state_in vs qs) (cond_below p slots (put_four ws at m) ws there)
      ∙ read_device qs p (with_numbers k (bit_at 64 m) (device_in ws p)) there (off_wider (device_at p) 16 (off_four ws at m) (omega arith) (omega arith))
      (device_there_lem (put_four ws at m) p there ∙ device_numbers k m (put_four ws at m) (off_four ws at m) (ap (bit_at 64) (put_get ws at m (omega arith) e))
      ∙ ap (with_numbers k (bit_at 64 m)) (sym (device_there_lem ws p there)))

  pub read_open : (o : Bool) → state_in (put_open ws p o) qs ≡ with_device p (with_open o (device_in ws p)) (state_in ws qs)
  unfolding put_open with_open
  read_open t =
      let vs = set ws (device_at p + 1) (cond t 1 0) in
      let o = off_set ws (device_at p + 1) (cond t 1 0) in
      ap (λ (l : List ℕ). state_in l qs) (cond_below p slots vs ws there)
      ∙ read_device qs p (with_open t (device_in ws p)) there (off_wider (device_at p) 16 o (omega arith) (omega arith))
      (device_there_lem vs p there
      ∙ same_device (device_there vs p) (with_open t (device_there ws p)) (ap flag (o.at (device_at p) (omega arith))) (ap flag (get_or-set_same ws (device_at p + 1) (cond t 1 0) 0 (omega arith)) ∙ flag_of t)
      (same_id (o.at (device_at p + 2) (omega arith)) (o.at (device_at p + 3) (omega arith))) (mask_off o (device_at p + 4) (omega arith))
      (mask_off o (device_at p + 8) (omega arith)) (mask_off o (device_at p + 12) (omega arith))
      ∙ ap (with_open t) (sym (device_there_lem ws p there)))

  -- either way of giving a slot
  device_given : (t : Bool) (i : Id) → device_there (slot_words ws p t i) p ≡ given_device t i
  unfolding mask_at
  device_given t i =
      same_device (device_there (slot_words ws p t i) p) (given_device t i) (ap (λ (l : List ℕ). flag (get_or l 0 0)) first ∙ flag_of t)
      (ap (λ (l : List ℕ). flag (get_or l 1 0)) first ∙ flag_of false) (same_id (ap (λ (l : List ℕ). get_or l 2 0) first) (ap (λ (l : List ℕ). get_or l 3 0) first))
      (ap (bit_at 64)
      (put_other _ (k + 12) zeros (k + 4) (omega arith) ∙ put_other _ (k + 8) zeros (k + 4) (omega arith)
      ∙ put_get _ (k + 4) zeros (simp put_length (omega arith)) refl)
      ∙ zero_bits)
      (ap (bit_at 64) (put_other _ (k + 12) zeros (k + 8) (omega arith) ∙ put_get _ (k + 8) zeros (simp put_length (omega arith)) refl) ∙ zero_bits)
      (ap (bit_at 64) (put_get _ (k + 12) zeros (simp put_length (omega arith)) refl) ∙ zero_bits)
    where
      k : ℕ
      k = device_at p

      first : four (slot_words ws p t i) k ≡ first_four t i
      first =
          put_other _ (k + 12) zeros k (omega arith) ∙ put_other _ (k + 8) zeros k (omega arith) ∙ put_other _ (k + 4) zeros k (omega arith)
          ∙ put_get ws k (first_four t i) (omega arith) refl

  read_given : (t : Bool) (i : Id) → state_in (put_device ws p t i) qs ≡ with_device p (given_device t i) (state_in ws qs)
  unfolding put_device
  read_given t i =
      ap (λ (vs : List ℕ). state_in vs qs) (cond_below p slots (slot_words ws p t i) ws there)
      ∙ read_device qs p (given_device t i) there
      (off_then (off_then (off_then (off_wider (device_at p) 16 (off_four ws (device_at p) (first_four t i)) (omega arith) (omega arith)) (within _ 4 zeros (omega arith)))
      (within _ 8 zeros (omega arith))) (within _ 12 zeros (omega arith)))
      (device_there_lem (slot_words ws p t i) p there ∙ device_given t i)
    where
      within : (us : List ℕ) (k : ℕ) (m : List ℕ) → k ≤ 12 → Off (device_at p) 16 us (put_four us (device_at p + k) m)
      within us k m l = off_wider (device_at p) 16 (off_four us (device_at p + k) m) (omega arith) (omega arith)

  pub read_new : (i : Id) → state_in (put_device ws p true i) qs ≡ with_device p (new_device i) (state_in ws qs)
  unfolding new_device
  read_new i = read_given true i

  pub read_none : state_in (put_device ws p false no_id) qs ≡ with_device p no_device (state_in ws qs)
  unfolding no_device
  read_none = read_given false no_id

-- ---- drivers

pub driver_of_byte : (d : Driver) → driver_of (byte_of d) ≡ d
unfolding driver_of byte_of
driver_of_byte Unbound = refl
driver_of_byte Host = refl
driver_of_byte Passthrough = refl

unbound_zero : driver_of 0 ≡ Unbound
unfolding driver_of
unbound_zero = refl

pub read_driver : (qs : List ℕ) (n : ℕ) (d : Driver) (ws : List ℕ) → n < length qs → (q : ℕ)
    → (state_in ws (set qs n (byte_of d))).driver q ≡ rebound n d (state_in ws qs).driver q
unfolding state_in rebound
read_driver qs n d ws h q = go (eqb q n) refl
  where
    go : (b : Bool) → eqb q n ≡ b → driver_of (get_or (set qs n (byte_of d)) q 0) ≡ cond b d (driver_of (get_or qs q 0))
    go true e =
        ap (λ (i : ℕ). driver_of (get_or (set qs n (byte_of d)) i 0)) (eqb-true q n e) ∙ ap driver_of (get_or-set_same qs n (byte_of d) 0 h) ∙ driver_of_byte d
    go false e = ap driver_of (get_or-set_other qs n q (byte_of d) 0 (eqb-false q n e))

pub read_rebound : (qs : List ℕ) (n : ℕ) (d : Driver) (ws : List ℕ) → n < length qs
    → state_in ws (set qs n (byte_of d))
    ≡ record {
      limits = (state_in ws qs).limits;
      host = (state_in ws qs).host;
      config = (state_in ws qs).config;
      device = (state_in ws qs).device;
      driver = rebound n d (state_in ws qs).driver;
    }
unfolding state_in
read_rebound qs n d ws h =
    let e = fun_ext (read_driver qs n d ws h) in
    λ i. record { limits = limits_in ws; host = host_in ws; config = config_in ws; device = device_in ws; driver = e i }

-- ---- a configuration

-- the words with a configuration's masks put
abbrev mask_words : List ℕ → Configuration → List ℕ
mask_words ws c = put_four (put_four (put_four ws config_at c.adapters.words) (config_at + 4) c.domains.words) (config_at + 8) c.controls.words

-- a stored type
abbrev type_of : Configuration → ℕ → ℕ
type_of c a = cond (bits c.adapters a) (get_or c.types a 0) 0

module _ (ws : List ℕ) (c : Configuration) (long : length ws ≡ word_count) (wa : Sized 64 4 c.adapters.words) (wd : Sized 64 4 c.domains.words)
    (wc : Sized 64 4 c.controls.words) where
  off_config : Off 10 268 ws (put_config ws c)
  unfolding put_config
  off_config =
      off_then (off_then (off_then (wide ws 10 c.adapters.words (omega arith) (omega arith)) (wide _ 14 c.domains.words (omega arith) (omega arith)))
      (wide _ 18 c.controls.words (omega arith) (omega arith))) (off_wider 10 268 (off_types (mask_words ws c) (type_of c) 256) (omega arith) (omega arith))
    where
      wide : (us : List ℕ) (k : ℕ) (m : List ℕ) → 10 ≤ k → k + 4 ≤ 278 → Off 10 268 us (put_four us k m)
      wide us k m l h = off_wider 10 268 (off_four us k m) l (omega arith)

  -- the types, the last of a configuration's words
  config_types : (a : ℕ) → cond (ltb a 256) (get_or (put_config ws c) (22 + a) 0) 0 ≡ type_of c a
  unfolding put_config
  config_types a = go (ltb a 256) refl
    where
      go : (b : Bool) → ltb a 256 ≡ b → cond b (get_or (put_config ws c) (22 + a) 0) 0 ≡ type_of c a
      go true e = types_at_lem (mask_words ws c) (type_of c) 256 a (simp put_length (omega arith)) (ltb-true a 256 e)
      go false e = ap (λ (b : Bool). cond b (get_or c.types a 0) 0) (sym (past_end a (omega arith) wa (ltb-false a 256 e)))

  config_put : config_in (put_config ws c) ≡ stored c
  unfolding config_in stored mask_at put_config
  config_put =
      let o = off_types (mask_words ws c) (type_of c) 256 in
      let p = four_off o 10 (omega arith) ∙ put_other _ 18 c.controls.words 10 (omega arith) ∙ put_other _ 14 c.domains.words 10 (omega arith)
      ∙ put_get ws 10 c.adapters.words (omega arith) wa.long in
      let q = four_off o 14 (omega arith) ∙ put_other _ 18 c.controls.words 14 (omega arith)
      ∙ put_get _ 14 c.domains.words (simp put_length (omega arith)) wd.long in
      let r = four_off o 18 (omega arith) ∙ put_get _ 18 c.controls.words (simp put_length (omega arith)) wc.long in
      let t = fun_ext config_types in
      λ i. record { adapters = bit_at 64 (p i); domains = bit_at 64 (q i); controls = bit_at 64 (r i); types = t i }

  -- the drivers once those of the queues in `gone` are cleared
  drivers_unbound : (qs : List ℕ) (gone : Bits) (n : ℕ) → length qs ≡ n → (q : ℕ)
      → driver_of (get_or (unbind qs gone n) q 0) ≡ cond (gone q) Unbound (driver_of (get_or qs q 0))
  drivers_unbound qs gone n e q = go (ltb q n) refl
    where
      chosen : (b : Bool) (x : ℕ) → driver_of (cond b 0 x) ≡ cond b Unbound (driver_of x)
      chosen true x = unbound_zero
      chosen false x = refl

      go : (b : Bool) → ltb q n ≡ b → driver_of (get_or (unbind qs gone n) q 0) ≡ cond (gone q) Unbound (driver_of (get_or qs q 0))
      go true h = ap driver_of (unbind_at qs gone n q (omega arith) (ltb-true q n h)) ∙ chosen (gone q) (get_or qs q 0)
      go false h =
          let l : n ≤ q = ltb-false q n h in
          let none : get_or qs q 0 ≡ 0 = get_or-eq_default qs 0 {n = q} (omega arith) in
          ap driver_of (unbind_above qs gone n q l ∙ none) ∙ unbound_zero ∙ sym (cond_both (gone q) Unbound)
          ∙ ap (λ (x : Driver). cond (gone q) Unbound x) (sym (ap driver_of none ∙ unbound_zero))

  pub read_config : (qs : List ℕ) → length qs ≡ queues → state_in (put_config ws c) (unbind qs (taken_away ws c) queues) ≡ with_config (stored c) (state_in ws qs)
  unfolding state_in with_config taken_away
  read_config qs e =
      same_state (state_in (put_config ws c) (unbind qs (taken_away ws c) queues)) (with_config (stored c) (state_in ws qs)) (limits_off off_config (omega arith))
      (host_off off_config (omega arith)) config_put (fun_ext (λ p. device_off off_config p (omega arith)))
      (fun_ext (drivers_unbound qs (taken_away ws c) queues e))

-- ---- a fresh record

pub zero_at : (n q : ℕ) → get_or {A = ℕ} (replicate n 0) q 0 ≡ 0
zero_at zero q = refl
zero_at (suc n) zero = refl
zero_at (suc n) (suc q) = zero_at n q

module _ (a d : ℕ) where
  pub fresh_length : length (fresh_words a d) ≡ word_count
  unfolding fresh_words
  fresh_length = refl

  -- past the host's masks all words are 0
  pub past_ten : (j : ℕ) → 10 ≤ j → get_or (fresh_words a d) j 0 ≡ 0
  unfolding fresh_words
  past_ten j h =
      let e : j ≡ 10 + (j - 10) = omega arith in
      ap (λ (i : ℕ). get_or (fresh_words a d) i 0) e ∙ get_or-append-add (a ∷ d ∷ replicate 8 ones) (replicate 396 0) (j - 10) 0 ∙ zero_at 396 (j - 10)

  no_mask : (k : ℕ) → 10 ≤ k → mask_at (fresh_words a d) k ≡ no_bits
  unfolding mask_at
  no_mask k h =
      ap (bit_at 64) (four_path (past_ten k h) (past_ten (k + 1) (omega arith)) (past_ten (k + 2) (omega arith)) (past_ten (k + 3) (omega arith))) ∙ zero_bits

  fresh_limits : a ≤ 255 → d ≤ 255 → limits_in (fresh_words a d) ≡ record { adapter = a; domain = d }
  unfolding limits_in fresh_words
  fresh_limits ha hd = λ i. record { adapter = min-eq_left ha i; domain = min-eq_left hd i }

  fresh_host : host_in (fresh_words a d) ≡ record { apmask = all_bits; aqmask = all_bits }
  unfolding host_in mask_at fresh_words
  fresh_host = λ i. record { apmask = one_bits i; aqmask = one_bits i }

  fresh_config : config_in (fresh_words a d) ≡ record { adapters = no_bits; domains = no_bits; controls = no_bits; types = λ i. 0 }
  unfolding config_in
  fresh_config =
      let t = fun_ext (λ j. ap (λ (x : ℕ). cond (ltb j 256) x 0) (past_ten (22 + j) (omega arith)) ∙ cond_both (ltb j 256) 0) in
      let p = no_mask 10 (omega arith) in
      let q = no_mask 14 (omega arith) in
      let r = no_mask 18 (omega arith) in
      λ i. record { adapters = p i; domains = q i; controls = r i; types = t i }

  fresh_device : (p : ℕ) → device_in (fresh_words a d) p ≡ no_device
  unfolding device_in no_device
  fresh_device p = ap (λ (v : Device). cond (ltb p slots) v no_device) there ∙ cond_both (ltb p slots) no_device
    where
      there : device_there (fresh_words a d) p ≡ no_device
      there =
          same_device (device_there (fresh_words a d) p) no_device (ap flag (past_ten (device_at p) (omega arith)) ∙ flag_of false)
          (ap flag (past_ten (device_at p + 1) (omega arith)) ∙ flag_of false)
          (same_id (past_ten (device_at p + 2) (omega arith)) (past_ten (device_at p + 3) (omega arith))) (no_mask (device_at p + 4) (omega arith))
          (no_mask (device_at p + 8) (omega arith)) (no_mask (device_at p + 12) (omega arith))

  pub read_fresh : a ≤ 255 → d ≤ 255 → state_in (fresh_words a d) (replicate queues 0) ≡ fresh (record { adapter = a; domain = d })
  unfolding state_in fresh
  read_fresh ha hd =
      same_state (state_in (fresh_words a d) (replicate queues 0)) (fresh (record { adapter = a; domain = d })) (fresh_limits ha hd) fresh_host fresh_config
      (fun_ext fresh_device) (fun_ext (λ q. ap driver_of (zero_at queues q) ∙ unbound_zero))

-- ---- a command

-- a refusal leaves every byte
pub carried_refused : (rule : State → Outcome State) (effect : Memory → Memory) (m : Memory) (e : Errno) → rule (read m) ≡ refused e
    → Carried rule effect m m (Err e)
unfolding errno_of state_after memory_after
carried_refused rule effect m e h =
    record {
      answer = sym (ap errno_of h);
      state = sym (ap (state_after (read m)) h);
      bytes = sym (ap (λ (o : Outcome State). memory_after m o (effect m)) h);
    }

-- an accepted call leaves its effect
pub carried_granted : (rule : State → Outcome State) (effect : Memory → Memory) (m n : Memory) (t : State) → n ≡ effect m → rule (read m) ≡ granted t
    → read (effect m) ≡ t → Carried rule effect m n (Ok tt)
unfolding errno_of state_after memory_after
carried_granted rule effect m n t e h k =
    record {
      answer = sym (ap errno_of h);
      state = ap read e ∙ k ∙ sym (ap (state_after (read m)) h);
      bytes = e ∙ sym (ap (λ (o : Outcome State). memory_after m o (effect m)) h);
    }

-- the same of a command that is lent the words alone
pub refused_carried : (rule : State → Outcome State) (effect : List ℕ → List ℕ) (ws : List ℕ) (e : Errno)
    → ((qs : List ℕ) → rule (state_in ws qs) ≡ refused e) → CarriedWords rule effect ws ws (Err e)
refused_carried rule effect ws e h = λ qs. carried_refused rule (on_words effect) (memory ws qs) e (h qs)

pub done_carried : (rule : State → Outcome State) (effect : List ℕ → List ℕ) (ws : List ℕ) {vs : List ℕ} (t : List ℕ → State) → vs ≡ effect ws
    → ((qs : List ℕ) → rule (state_in ws qs) ≡ granted (t qs)) → ((qs : List ℕ) → state_in (effect ws) qs ≡ t qs) → CarriedWords rule effect ws vs (Ok tt)
done_carried rule effect ws {vs} t e h k =
    λ qs. carried_granted rule (on_words effect) (memory ws qs) (memory vs qs) (t qs) (ap (λ (l : List ℕ). memory l qs) e) (h qs) (k qs)

-- a rule that comes to the same as another
pub carried_as : (rule rule' : State → Outcome State) (effect effect' : List ℕ → List ℕ) (ws : List ℕ) {vs : List ℕ} {r : Answer}
    → ((qs : List ℕ) → rule' (state_in ws qs) ≡ rule (state_in ws qs)) → effect' ws ≡ effect ws → CarriedWords rule effect ws vs r
    → CarriedWords rule' effect' ws vs r
carried_as rule rule' effect effect' ws {vs} {r} h e c =
    λ qs. record {
      answer = (c qs).answer ∙ ap errno_of (sym (h qs));
      state = (c qs).state ∙ ap (state_after (state_in ws qs)) (sym (h qs));
      bytes = (c qs).bytes ∙ ap₂ (λ (o : Outcome State) (l : List ℕ). memory_after (memory ws qs) o (memory l qs)) (sym (h qs)) (sym e);
    }

-- where a slot lies that there is
pub slot_found : {r p : ℕ} → p < slots → r ≡ device_at (min p slots) → r ≡ device_at p
slot_found l e = e ∙ ap device_at (min-eq_left (omega arith))
