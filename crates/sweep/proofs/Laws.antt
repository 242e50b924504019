-- The bytes that several moves and sweeps write, read as moves and sweeps of the state; a sweep part by part.
-- Assumes nothing.
use Prim.Native.Nat.{ℕ, zero, suc, ◌+◌, ◌-◌, ◌*◌, ◌≤◌, ◌<◌, min}
use native.Mathlib.Nat.{add-zero, zero-add}
use native.Mathlib.Numerals.{add-one}
use native.Mathlib.Omega.{arith}
use mathlib.Core.Path.{◌≡◌, refl, sym, ap, ap₂, subst, ◌∙◌}
use mathlib.Core.Bool.{Bool, true, false, cond, not}
use mathlib.Core.List.{List}
use lib.ListN.{length, get_or, set}
use lib.Seq.{get_or-set_same, set-set}
use lib.Dec.{eqb, leb, ltb}
use borrow.Author.Tests.{eq-eqb, ne_eqb, ltb-true, ltb-false, leb-true, leb-false, le-leb, lt-leb, lt-ltb, le-ltb}
use Rattle.std.specs.Prelude.{Option, Some, None}
use Rattle.std.proofs.lemmas.Option.{cond_some, none-some}
use Rattle.rules.specs.declared.Driver.{Driver}
use Rattle.rules.specs.declared.Driver.TheVariants.{Unbound, Host, Passthrough}
use Rattle.rules.specs.State.{queues}
use Rattle.rules.specs.Queues.{target_of, moved, due, due_at, sum_from, remaining, moves, most_moves, moves_used}
use Rattle.rules.proofs.Sums.{sum_from_none, sum_from_first, sum_from_cong, sum_from_parts, sum_from_one}
use Rattle.rules.proofs.Sweeps.{sweep_from, sweep, remaining_swept, sweeping, all_due}
use Rattle.layout.specs.Layout.{state_in, host_in, config_in, driver_of, byte_of}
use Rattle.layout.proofs.Laws.{driver_of_byte}
use Rattle.bind.specs.Moves.{bytes_after, move_bytes}
use Rattle.bind.proofs.Laws.{read_move, move_length, move_other, bytes_by, answer_read}
use Rattle.due.proofs.Laws.{due_read}
use Rattle.targetrow.specs.declared.TargetRow.{TargetRow}
use Rattle.targetrow.specs.TargetRows.{TargetsOf, row_target}
use Rattle.targetrow.proofs.Laws.{row_target_lem}
use Rattle.sweep.specs.declared.Swept.{Swept}
use Rattle.sweep.specs.Sweeps.{moves_bytes, finished_bytes, sweep_bytes, left_of, PartSweeping, Sweeping}

-- ---- moves

pub read_moves : (ws : List ℕ) (m n : ℕ) (qs : List ℕ) → n < length qs → state_in ws (moves_bytes ws m n qs) ≡ moves m n (state_in ws qs)
unfolding moves_bytes moves
read_moves ws zero n qs h = refl
read_moves ws (suc m) n qs h =
    read_moves ws m n (move_bytes ws n qs) (omega (arith, move_length ws qs n)) ∙ ap (moves m n) (read_move ws qs n h)

pub moves_length : (ws : List ℕ) (m n : ℕ) (qs : List ℕ) → length (moves_bytes ws m n qs) ≡ length qs
unfolding moves_bytes
moves_length ws zero n qs = refl
moves_length ws (suc m) n qs = moves_length ws m n (move_bytes ws n qs) ∙ move_length ws qs n

pub moves_other_byte : (ws : List ℕ) (m n : ℕ) (qs : List ℕ) (j : ℕ) → (j ≡ n → ⊥) → get_or (moves_bytes ws m n qs) j 0 ≡ get_or qs j 0
unfolding moves_bytes
moves_other_byte ws zero n qs j h = refl
moves_other_byte ws (suc m) n qs j h = moves_other_byte ws m n (move_bytes ws n qs) j h ∙ move_other ws qs n j h

-- one more move
pub moves_more : (ws : List ℕ) (m n : ℕ) (qs : List ℕ) → moves_bytes ws (m + 1) n qs ≡ move_bytes ws n (moves_bytes ws m n qs)
unfolding moves_bytes
moves_more ws m n qs = ap (λ (i : ℕ). moves_bytes ws i n qs) (add-one m) ∙ go m qs
  where
    go : (m : ℕ) (qs : List ℕ) → moves_bytes ws (suc m) n qs ≡ move_bytes ws n (moves_bytes ws m n qs)
    go zero qs = refl
    go (suc m) qs = go m (move_bytes ws n qs)

-- no move, one and two
pub no_moves : (ws : List ℕ) (n : ℕ) (qs : List ℕ) → moves_bytes ws 0 n qs ≡ qs
unfolding moves_bytes
no_moves ws n qs = refl

pub one_move : (ws : List ℕ) (n : ℕ) (qs : List ℕ) → moves_bytes ws 1 n qs ≡ move_bytes ws n qs
unfolding moves_bytes
one_move ws n qs = refl

pub two_moves : (ws : List ℕ) (n : ℕ) (qs : List ℕ) → moves_bytes ws 2 n qs ≡ move_bytes ws n (move_bytes ws n qs)
unfolding moves_bytes
two_moves ws n qs = refl

-- ---- what is due

-- the bytes after a move, by the driver that the queue has and its target
step : (ws qs : List ℕ) (k : ℕ) (v t : Driver) → driver_of (get_or qs k 0) ≡ v → target_of (host_in ws) (config_in ws) k ≡ t
    → bytes_after (moved v t) k qs ≡ move_bytes ws k qs
step ws qs k v t e f = bytes_by ws qs k (moved v t) (sym (ap₂ moved e f) ∙ answer_read ws qs k)

-- an exchange: the queue is released, and then bound
exchange : (ws qs : List ℕ) (k : ℕ) (t : Driver) → k < length qs → target_of (host_in ws) (config_in ws) k ≡ t
    → set qs k (byte_of Unbound) ≡ move_bytes ws k qs → bytes_after (moved Unbound t) k (set qs k (byte_of Unbound)) ≡ moves_bytes ws 2 k qs
exchange ws qs k t h f g =
    step ws (set qs k (byte_of Unbound)) k Unbound t (ap driver_of (get_or-set_same qs k (byte_of Unbound) 0 h) ∙ driver_of_byte Unbound) f
    ∙ ap (move_bytes ws k) g ∙ sym (two_moves ws k qs)

-- the bytes after all moves that are due, by the driver that the queue has and its target
finished_by : (ws qs : List ℕ) (k : ℕ) (v t : Driver) → k < length qs → driver_of (get_or qs k 0) ≡ v → target_of (host_in ws) (config_in ws) k ≡ t
    → cond (eqb (due v t) 0) qs (set qs k (byte_of t)) ≡ moves_bytes ws (due v t) k qs
unfolding bytes_after
finished_by ws qs k Unbound Unbound h e f = sym (no_moves ws k qs)
finished_by ws qs k Unbound Host h e f = step ws qs k Unbound Host e f ∙ sym (one_move ws k qs)
finished_by ws qs k Unbound Passthrough h e f = step ws qs k Unbound Passthrough e f ∙ sym (one_move ws k qs)
finished_by ws qs k Host Unbound h e f = step ws qs k Host Unbound e f ∙ sym (one_move ws k qs)
finished_by ws qs k Host Host h e f = sym (no_moves ws k qs)
finished_by ws qs k Host Passthrough h e f =
    sym (set-set qs k (byte_of Unbound) (byte_of Passthrough)) ∙ exchange ws qs k Passthrough h f (step ws qs k Host Passthrough e f)
finished_by ws qs k Passthrough Unbound h e f = step ws qs k Passthrough Unbound e f ∙ sym (one_move ws k qs)
finished_by ws qs k Passthrough Host h e f =
    sym (set-set qs k (byte_of Unbound) (byte_of Host)) ∙ exchange ws qs k Host h f (step ws qs k Passthrough Host e f)
finished_by ws qs k Passthrough Passthrough h e f = sym (no_moves ws k qs)

-- a queue whose due moves are all made has its target's byte, or the one it had where none was due
pub finished : (ws qs : List ℕ) (k n : ℕ) (t : Driver) → k < length qs → n ≡ due_at (state_in ws qs) k → t ≡ target_of (host_in ws) (config_in ws) k
    → cond (eqb n 0) qs (set qs k (byte_of t)) ≡ moves_bytes ws n k qs
finished ws qs k n t h e f =
    rw (e ∙ due_read ws qs k, f) (finished_by ws qs k (driver_of (get_or qs k 0)) (target_of (host_in ws) (config_in ws) k) h refl refl)

-- queues with the same byte
pub due_byte : (ws qs rs : List ℕ) (j : ℕ) → get_or qs j 0 ≡ get_or rs j 0 → due_at (state_in ws qs) j ≡ due_at (state_in ws rs) j
unfolding due_at state_in
due_byte ws qs rs j e = ap (λ (b : ℕ). due (driver_of b) (target_of (host_in ws) (config_in ws) j)) e

-- ---- sweeps

pub read_sweep : (ws : List ℕ) (n k b : ℕ) (qs : List ℕ) → k + n ≤ length qs → state_in ws (sweep_bytes ws n k b qs) ≡ sweep_from n k b (state_in ws qs)
unfolding sweep_bytes sweep_from
read_sweep ws zero k b qs h = refl
read_sweep ws (suc n) k b qs h =
    let m = min b (due_at (state_in ws qs) k) in
    read_sweep ws n (suc k) (b - m) (moves_bytes ws m k qs) (omega (arith, moves_length ws m k qs))
    ∙ ap (sweep_from n (suc k) (b - m)) (read_moves ws m k qs (omega arith))

pub sweep_length : (ws : List ℕ) (n k b : ℕ) (qs : List ℕ) → length (sweep_bytes ws n k b qs) ≡ length qs
unfolding sweep_bytes
sweep_length ws zero k b qs = refl
sweep_length ws (suc n) k b qs =
    let m = min b (due_at (state_in ws qs) k) in
    sweep_length ws n (suc k) (b - m) (moves_bytes ws m k qs) ∙ moves_length ws m k qs

-- the bytes of the queues past a sweep, and what is due of them
sweep_ahead : (ws : List ℕ) (n k b : ℕ) (qs : List ℕ) (j : ℕ) → k + n ≤ j → get_or (sweep_bytes ws n k b qs) j 0 ≡ get_or qs j 0
unfolding sweep_bytes
sweep_ahead ws zero k b qs j h = refl
sweep_ahead ws (suc n) k b qs j h =
    let m = min b (due_at (state_in ws qs) k) in
    sweep_ahead ws n (suc k) (b - m) (moves_bytes ws m k qs) j (omega arith) ∙ moves_other_byte ws m k qs j (λ e. omega arith)

due_ahead : (ws : List ℕ) (n k b : ℕ) (qs : List ℕ) (m : ℕ)
    → sum_from m (k + n) (due_at (state_in ws (sweep_bytes ws n k b qs))) ≡ sum_from m (k + n) (due_at (state_in ws qs))
due_ahead ws n k b qs m =
    let rs = sweep_bytes ws n k b qs in
    sum_from_cong m (k + n) (due_at (state_in ws rs)) (due_at (state_in ws qs)) (λ j h. due_byte ws rs qs j (sweep_ahead ws n k b qs j h))

-- no move is left
sweep_nothing : (ws : List ℕ) (n k b : ℕ) (qs : List ℕ) → b ≡ 0 → sweep_bytes ws n k b qs ≡ qs
unfolding sweep_bytes
sweep_nothing ws zero k b qs e = refl
sweep_nothing ws (suc n) k b qs e =
    let m = min b (due_at (state_in ws qs) k) in
    let z : m ≡ 0 = omega arith in
    sweep_nothing ws n (suc k) (b - m) (moves_bytes ws m k qs) (omega arith) ∙ ap (λ (i : ℕ). moves_bytes ws i k qs) z ∙ no_moves ws k qs

-- a sweep of one queue
pub sweep_one : (ws : List ℕ) (k b m : ℕ) (qs : List ℕ) → m ≡ min b (due_at (state_in ws qs) k) → sweep_bytes ws 1 k b qs ≡ moves_bytes ws m k qs
unfolding sweep_bytes
sweep_one ws k b m qs e = ap (λ (i : ℕ). moves_bytes ws i k qs) (sym e)

-- a sweep of some queues and then of those after them, with the moves that are left
sweep_parts : (ws : List ℕ) (m n k b : ℕ) (qs : List ℕ)
    → sweep_bytes ws (m + n) k b qs ≡ sweep_bytes ws n (k + m) (b - sum_from m k (due_at (state_in ws qs))) (sweep_bytes ws m k b qs)
unfolding sweep_bytes
sweep_parts ws zero n k b qs = let e : b - sum_from 0 k (due_at (state_in ws qs)) ≡ b = omega (arith, sum_from_none k (due_at (state_in ws qs))) in rw (zero-add, add-zero, e)
sweep_parts ws (suc m) n k b qs =
    let s = state_in ws qs in
    let u = min b (due_at s k) in
    let rs = moves_bytes ws u k qs in
    let c : suc m + n ≡ suc (m + n) = omega arith in
    let same : sum_from m (suc k) (due_at (state_in ws rs)) ≡ sum_from m (suc k) (due_at s) =
    sum_from_cong m (suc k) (due_at (state_in ws rs)) (due_at s) (λ j h. due_byte ws rs qs j (moves_other_byte ws u k qs j (λ e. omega arith))) in
    ap (λ (i : ℕ). sweep_bytes ws i k b qs) c ∙ sweep_parts ws m n (suc k) (b - u) rs
    ∙ ap₂ (λ (i j : ℕ). sweep_bytes ws n i j (sweep_bytes ws m (suc k) (b - u) rs)) (omega arith) (omega (arith, same, sum_from_first m k (due_at s)))

-- a sweep from queue o on with b moves to make, past k queues: some moves are left; it began with the bytes rs and has come to qs
pub record Underway (ws rs : List ℕ) (o b k left : ℕ) (qs : List ℕ) : Type 0 where
  pub bytes : qs ≡ sweep_bytes ws k o b rs
  pub made : b ≡ left + sum_from k o (due_at (state_in ws rs))

pub sweep_starts : (ws rs : List ℕ) (o b : ℕ) → Underway ws rs o b 0 b rs
unfolding sweep_bytes
sweep_starts ws rs o b = record { bytes = refl; made = omega (arith, sum_from_none o (due_at (state_in ws rs))) }

-- a sweep has as many queues as it began with
pub as_long : {ws rs : List ℕ} {o b k left : ℕ} {qs : List ℕ} → Underway ws rs o b k left qs → length qs ≡ length rs
as_long {ws} {rs} {o} {b} {k} w = ap length w.bytes ∙ sweep_length ws k o b rs

module _ {ws rs : List ℕ} {o b k left : ℕ} {qs : List ℕ} (w : Underway ws rs o b k left qs) (p m : ℕ) (at : p ≡ o + k) where
  -- what is due of the m queues that come next
  due_next : sum_from m p (due_at (state_in ws qs)) ≡ sum_from m (o + k) (due_at (state_in ws rs))
  due_next = ap₂ (λ (x : List ℕ) (i : ℕ). sum_from m i (due_at (state_in ws x))) w.bytes at ∙ due_ahead ws k o b rs m

  -- the bytes after them
  next : sweep_bytes ws m p left qs ≡ sweep_bytes ws (k + m) o b rs
  next =
      let e : left ≡ b - sum_from k o (due_at (state_in ws rs)) = omega (arith, w.made) in
      (λ i. sweep_bytes ws m (at i) (e i) (w.bytes i)) ∙ sym (sweep_parts ws k m o b rs)

  -- they need no more than is left
  pub goes_on : (rest : ℕ) (after : List ℕ) → after ≡ sweep_bytes ws m p left qs → left ≡ rest + sum_from m p (due_at (state_in ws qs)) → Underway ws rs o b (k + m) rest after
  goes_on rest after e f = record { bytes = e ∙ next; made = omega (arith, w.made, due_next, sum_from_parts k m o (due_at (state_in ws rs))) }

  -- they need more: the sweep ends here, however many queues it has
  pub stops : (n : ℕ) → k + m ≤ n → left < sum_from m p (due_at (state_in ws qs)) → (sweep_bytes ws m p left qs ≡ sweep_bytes ws n o b rs) × (b < sum_from n o (due_at (state_in ws rs)))
  stops n h l =
      let f = due_at (state_in ws rs) in
      let x = n - (k + m) in
      let c : k + m + x ≡ n = omega arith in
      let short : b < sum_from (k + m) o f = omega (arith, w.made, due_next, sum_from_parts k m o f) in (
        next ∙ sym (sweep_nothing ws x (o + (k + m)) (b - sum_from (k + m) o f) (sweep_bytes ws (k + m) o b rs) (omega arith))
            ∙ sym (sweep_parts ws (k + m) x o b rs) ∙ ap (λ (i : ℕ). sweep_bytes ws i o b rs) c,
        omega (arith, sum_from_parts (k + m) x o f, ap (λ (i : ℕ). sum_from i o f) c),
      )

-- ---- a sweep of an adapter's queues

-- the moves that are left, and that they do not suffice
pub left_all : (b n x : ℕ) → b ≡ x + n → Some x ≡ left_of b n
unfolding left_of
left_all b n x e =
    let rest : x ≡ b - n = omega arith in
    ap Some rest ∙ ap (λ (t : Bool). cond t (Some (b - n)) None) (sym (le-leb n b (omega arith)))

pub left_none : (b n : ℕ) → b < n → None ≡ left_of b n
unfolding left_of
left_none b n h = ap (λ (t : Bool). cond t (Some (b - n)) None) (sym (lt-leb n b h))

left_some : (b n x : ℕ) → left_of b n ≡ Some x → b ≡ x + n
unfolding left_of
left_some b n x e =
    let enough = cond_some (leb n b) (b - n) x e in
    let below : n ≤ b = leb-true n b enough.0 in
    omega (arith, enough.1)

left_short : (b n : ℕ) → left_of b n ≡ None → b < n
unfolding left_of
left_short b n e = go (leb n b) refl
  where
    go : (t : Bool) → leb n b ≡ t → b < n
    go true q = absurd (none-some (b - n) (sym e ∙ ap (λ (u : Bool). cond u (Some (b - n)) None) q))
    go false q = leb-false n b q

module _ {ws rs : List ℕ} {a b k left : ℕ} {qs : List ℕ} (w : Underway ws rs (a * 256) b k left qs) {row : TargetRow}
    (targets : TargetsOf (host_in ws) (config_in ws) a row) (below : k < 256) {v t : Driver} {n : ℕ}
    (driver : v ≡ driver_of (get_or qs (a * 256 + k) 0)) (target : t ≡ row_target row k) (needs : n ≡ due v t) where
  target_here : t ≡ target_of (host_in ws) (config_in ws) (a * 256 + k)
  target_here = target ∙ row_target_lem targets k below

  due_here : n ≡ due_at (state_in ws qs) (a * 256 + k)
  due_here = needs ∙ ap₂ due driver target_here ∙ sym (due_read ws qs (a * 256 + k))

  -- at most two moves are due of the queue that a sweep has come to; it makes them all, or as many as are left
  pub queue_done : {after : List ℕ} (m : ℕ) → a * 256 + k < length qs → n ≤ left → after ≡ finished_bytes n t (a * 256 + k) qs → m ≡ k + 1
      → Underway ws rs (a * 256) b m (left - n) after
  queue_done {after} m long enough e f =
      let q = a * 256 + k in
      subst (λ (i : ℕ). Underway ws rs (a * 256) b i (left - n) after) (sym f)
      (goes_on w q 1 refl (left - n) after
      (e ∙ finished ws qs q n t long due_here target_here ∙ sym (sweep_one ws q left n qs (omega (arith, due_here))))
      (omega (arith, due_here, sum_from_one q (due_at (state_in ws qs)))))

  pub queue_short : {after : List ℕ} → left < n → after ≡ moves_bytes ws left (a * 256 + k) qs → PartSweeping b 256 (a * 256) ws rs after None
  queue_short {after} few e =
      let q = a * 256 + k in
      let s = state_in ws qs in
      let more : left < due_at s q = omega (arith, due_here) in
      let end = stops w q 1 refl 256 (omega arith) (omega (arith, sum_from_one q (due_at s))) in
      record {
        drivers = e ∙ sym (sweep_one ws q left left qs (omega arith)) ∙ end.0;
        left = left_none b _ end.1;
      }

-- all queues of a part are passed
pub part_done : {ws rs : List ℕ} {o b n left : ℕ} {qs : List ℕ} → Underway ws rs o b n left qs → PartSweeping b n o ws rs qs (Some left)
part_done {left = left} w = record { drivers = w.bytes; left = left_all _ _ left w.made }

module _ {ws rs : List ℕ} (a : ℕ) {b left : ℕ} {qs after : List ℕ} {r : Option ℕ} (w : Underway ws rs 0 b (a * 256) left qs)
    (row : PartSweeping left 256 (a * 256) ws qs after r) where
  -- the sweep of all queues goes on with the next adapter, or ends
  pub row_goes_on : {x : ℕ} (m : ℕ) → r ≡ Some x → m ≡ (a + 1) * 256 → Underway ws rs 0 b m x after
  row_goes_on {x} m e n =
      let here : a * 256 + 256 ≡ m = omega arith in
      let needed = sum_from 256 (a * 256) (due_at (state_in ws qs)) in
      subst (λ (i : ℕ). Underway ws rs 0 b i x after) here
      (goes_on w (a * 256) 256 (sym (zero-add (a * 256))) x after row.drivers (left_some left needed x (sym row.left ∙ e)))

  pub row_stops : r ≡ None → a < 256 → PartSweeping b queues 0 ws rs after None
  row_stops e below =
      let needed = sum_from 256 (a * 256) (due_at (state_in ws qs)) in
      let end = stops w (a * 256) 256 (sym (zero-add (a * 256))) queues (omega arith) (left_short left needed (sym row.left ∙ e)) in
      record { drivers = row.drivers ∙ end.0; left = left_none b _ end.1 }

-- a whole sweep, by the bytes that it leaves, its number, and whether more moves remain than it makes
pub swept_by : (ws rs qs : List ℕ) (budget most : ℕ) (r : Swept) → queues ≤ length rs → most ≡ min budget most_moves
    → qs ≡ sweep_bytes ws queues 0 most rs → r.used ≡ min most (remaining (state_in ws rs)) → r.more ≡ ltb most (remaining (state_in ws rs))
    → Sweeping budget ws rs qs r
unfolding sweep moves_used
swept_by ws rs qs budget most r h m b u o =
    let s = state_in ws rs in
    let d : qs ≡ sweep_bytes ws queues 0 (min budget most_moves) rs = b ∙ ap (λ (i : ℕ). sweep_bytes ws queues 0 i rs) m in
    let e : state_in ws qs ≡ sweep budget s = ap (state_in ws) d ∙ read_sweep ws queues 0 (min budget most_moves) rs (omega arith) in
    let left : remaining (state_in ws qs) + min most (remaining s) ≡ remaining s = rw (e, m) (remaining_swept budget s) in
    record {
      sweep =
          sweeping budget s (state_in ws qs) r.used r.more e (u ∙ ap (λ (i : ℕ). min i (remaining s)) m)
          (o ∙ sym (go (remaining (state_in ws qs)) (remaining s) left (ltb most (remaining s)) refl));
      drivers = d;
    }
  where
    go : (x r : ℕ) → x + min most r ≡ r → (t : Bool) → ltb most r ≡ t → not (eqb x 0) ≡ t
    go x r f true l = let below : most < r = ltb-true most r l in ap not (ne_eqb x 0 (λ z. omega arith))
    go x r f false l = let past : r ≤ most = ltb-false most r l in ap not (eq-eqb x 0 (omega arith))

-- a sweep of all queues, by the moves left: they suffice, or do not
module _ {ws rs qs : List ℕ} (budget : ℕ) {most : ℕ} {r : Option ℕ} (all : PartSweeping most queues 0 ws rs qs r) (long : queues ≤ length rs)
    (e : most ≡ min budget most_moves) where
  needed : sum_from queues 0 (due_at (state_in ws rs)) ≡ remaining (state_in ws rs)
  needed = all_due (state_in ws rs)

  pub left_at_most : {x : ℕ} → r ≡ Some x → x ≤ most
  left_at_most {x} f = omega (arith, left_some most _ x (sym all.left ∙ f))

  pub swept_all : {x : ℕ} → r ≡ Some x → Sweeping budget ws rs qs record { used = most - x; more = false }
  swept_all {x} f =
      let made : most ≡ x + remaining (state_in ws rs) = omega (arith, left_some most _ x (sym all.left ∙ f), needed) in
      swept_by ws rs qs budget most _ long e all.drivers (omega arith) (sym (le-ltb most _ (omega arith)))

  pub swept_short : r ≡ None → Sweeping budget ws rs qs record { used = most; more = true }
  swept_short f =
      let fewer : most < remaining (state_in ws rs) = omega (arith, left_short most _ (sym all.left ∙ f), needed) in
      swept_by ws rs qs budget most _ long e all.drivers (omega arith) (sym (lt-ltb most _ fewer))
