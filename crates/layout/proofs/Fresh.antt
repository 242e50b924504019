-- Every word of a fresh record is written, one after the other, so that it does not matter what was there.
-- Assumes nothing.
use Prim.Native.Nat.{ℕ, zero, suc, ◌+◌, ◌≤◌, ◌<◌}
use native.Mathlib.Omega.{arith}
use mathlib.Core.Bool.{Bool, true, false, cond}
use mathlib.Core.List.{List}
use mathlib.Core.Path.{◌≡◌, refl, sym, ◌∙◌}
use lib.Dec.{eqb}
use lib.ListN.{length, get_or, set, replicate, length-set}
use lib.Seq.{get_or-set_same, get_or-set_other, ext_get_or}
use borrow.Author.Tests.{eqb-true, eqb-false}
use Rattle.mask.specs.Bits.{bits}
use Rattle.rules.specs.State.{slots}
use Rattle.layout.specs.Layout.{word_count, zeros, no_configuration, apmask_at, aqmask_at, config_at, types_at, device_at, put_four, put_device, put_types, put_config, clear_slots, fresh_words}
use Rattle.layout.proofs.Laws.{cond_below, all_ones, fresh_length, past_ten, zero_at}

-- the first n of the words ws are those of a fresh record
record Begun (a d n : ℕ) (ws : List ℕ) : Type 0 where
  long : length ws ≡ word_count
  same : (j : ℕ) → j < n → get_or ws j 0 ≡ get_or (fresh_words a d) j 0

module _ {a d n : ℕ} {ws : List ℕ} (b : Begun a d n ws) where
  -- one word more
  next : (k v : ℕ) → k ≤ n → k < word_count → v ≡ get_or (fresh_words a d) k 0 → Begun a d (k + 1) (set ws k v)
  next k v l h e = record { long = length-set ws k v ∙ b.long; same = λ j u. go j u (eqb j k) refl }
    where
      go : (j : ℕ) → j < k + 1 → (t : Bool) → eqb j k ≡ t → get_or (set ws k v) j 0 ≡ get_or (fresh_words a d) j 0
      go j u true q = rw (eqb-true j k q) (get_or-set_same ws k v 0 (omega (arith, b.long)) ∙ e)
      go j u false q = let apart = eqb-false j k q in get_or-set_other ws k j v 0 apart ∙ b.same j (omega arith)

-- four words more
four_next : {a d n : ℕ} {ws : List ℕ} (k : ℕ) (m : List ℕ) → Begun a d n ws → k ≤ n → k + 3 < word_count → get_or m 0 0 ≡ get_or (fresh_words a d) k 0
    → get_or m 1 0 ≡ get_or (fresh_words a d) (k + 1) 0 → get_or m 2 0 ≡ get_or (fresh_words a d) (k + 2) 0 → get_or m 3 0 ≡ get_or (fresh_words a d) (k + 3) 0
    → Begun a d (k + 4) (put_four ws k m)
unfolding put_four
four_next {a} {d} {n} {ws} k m b l h e₀ e₁ e₂ e₃ =
    let b₁ = next b k (get_or m 0 0) l (omega arith) e₀ in
    let b₂ = next b₁ (k + 1) (get_or m 1 0) (omega arith) (omega arith) e₁ in
    let b₃ = next b₂ (k + 2) (get_or m 2 0) (omega arith) (omega arith) e₂ in
    let b₄ = next b₃ (k + 3) (get_or m 3 0) (omega arith) h e₃ in
    record { long = b₄.long; same = λ j u. b₄.same j (omega arith) }

zeros_next : {a d n : ℕ} {ws : List ℕ} (k : ℕ) → Begun a d n ws → 10 ≤ k → k ≤ n → k + 3 < word_count → Begun a d (k + 4) (put_four ws k zeros)
zeros_next {a} {d} k b t l h =
    four_next k zeros b l h (sym (past_ten a d k t)) (sym (past_ten a d (k + 1) (omega arith))) (sym (past_ten a d (k + 2) (omega arith)))
    (sym (past_ten a d (k + 3) (omega arith)))

types_next : {a d : ℕ} {ws : List ℕ} (f : ℕ → ℕ) (n : ℕ) → ((i : ℕ) → f i ≡ 0) → n ≤ 256 → Begun a d types_at ws → Begun a d (types_at + n) (put_types ws f n)
unfolding put_types
types_next f zero none l b = b
types_next {a} {d} {ws} f (suc n) none l b =
    let c = next (types_next f n none (omega arith) b) (types_at + n) (f n) (omega arith) (omega arith) (none n ∙ sym (past_ten a d (types_at + n) (omega arith))) in
    record { long = c.long; same = λ j u. c.same j (omega arith) }

config_next : {a d : ℕ} {ws : List ℕ} → Begun a d config_at ws → Begun a d (device_at 0) (put_config ws no_configuration)
unfolding put_config
config_next b =
    types_next (λ i. cond (bits no_configuration.adapters i) (get_or no_configuration.types i 0) 0) 256 (λ i. none (bits no_configuration.adapters i) i) (omega arith)
    (zeros_next 18 (zeros_next 14 (zeros_next 10 b (omega arith) (omega arith) (omega arith)) (omega arith) (omega arith) (omega arith)) (omega arith) (omega arith) (omega arith))
  where
    none : (t : Bool) (i : ℕ) → cond t (get_or {A = ℕ} (replicate 256 0) i 0) 0 ≡ 0
    none true i = zero_at 256 i
    none false i = refl

slots_next : {a d : ℕ} {ws : List ℕ} (n : ℕ) → n ≤ slots → Begun a d (device_at 0) ws → Begun a d (device_at n) (clear_slots ws n)
unfolding clear_slots put_device
slots_next zero l b = b
slots_next {a} {d} {ws} (suc n) l b =
    let k = device_at n in
    let b₁ = zeros_next k (slots_next n (omega arith) b) (omega arith) (omega arith) (omega arith) in
    let b₂ = zeros_next (k + 4) b₁ (omega arith) (omega arith) (omega arith) in
    let b₃ = zeros_next (k + 8) b₂ (omega arith) (omega arith) (omega arith) in
    let b₄ = zeros_next (k + 12) b₃ (omega arith) (omega arith) (omega arith) in
    rw (cond_below n slots _ (clear_slots ws n) (omega arith)) (record { long = b₄.long; same = λ j u. b₄.same j (omega arith) })

-- a fresh record over any words
pub fresh_over_any : (ws : List ℕ) (a d : ℕ) → length ws ≡ word_count
    → clear_slots (put_config (put_four (put_four (set (set ws 0 a) 1 d) apmask_at all_ones) aqmask_at all_ones) no_configuration) slots ≡ fresh_words a d
unfolding fresh_words
fresh_over_any ws a d long =
    let b₀ : Begun a d 0 ws = record { long = long; same = λ j u. absurd (omega arith) } in
    let b₁ = next (next b₀ 0 a (omega arith) (omega arith) refl) 1 d (omega arith) (omega arith) refl in
    let b₂ = four_next 6 all_ones (four_next 2 all_ones b₁ (omega arith) (omega arith) refl refl refl refl) (omega arith) (omega arith) refl refl refl refl in
    let b = slots_next slots (omega arith) (config_next b₂) in
    ext_get_or 0 _ (fresh_words a d) (b.long ∙ sym (fresh_length a d)) (λ j u. b.same j (omega (arith, b.long)))
