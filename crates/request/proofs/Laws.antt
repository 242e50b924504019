-- One request that is carried out.
-- Assumes nothing.
use Prim.Native.Nat.{ℕ, ◌+◌, ◌*◌, ◌%◌, ◌≤◌, ◌<◌}
use native.Mathlib.Omega.{arith}
use mathlib.Core.Bool.{Bool, true, false, cond, not}
use mathlib.Core.List.{List, [], ◌∷◌}
use mathlib.Core.Path.{◌≡◌, refl, sym, ap, subst, ◌∙◌}
use lib.Dec.{eqb}
use lib.ListN.{get_or, drop}
use borrow.Author.Tests.{ne_eqb, le-leb, lt-leb}
use Rattle.rules.specs.declared.Moved.{Moved}
use Rattle.rules.specs.State.{State}
use Rattle.rules.specs.Queues.{move_answer, moved_number, remaining}
use Rattle.rules.specs.Commands.{Answer, answered}
use Rattle.layout.specs.Layout.{state_in}
use Rattle.layout.specs.Carried.{Memory, memory, Carried}
use Rattle.sweep.specs.declared.Swept.{Swept}
use Rattle.bind.specs.Moves.{move_bytes, Moving}
use Rattle.sweep.specs.Sweeps.{Sweeping}
use Rattle.model.specs.Steps.{Command, configure, queue_of, rule, after_all}
use Rattle.model.specs.Steps as Steps
use Rattle.model.specs.Sweeps.{sweep_steps}
use Rattle.model.proofs.Sweeping.{sweep_steps_lem}
use Rattle.calls.specs.Calls.{effect, Call, moves, sweeps}
use Rattle.fields.specs.Fields.{half_at, id_of, kind_of}
use Rattle.encoding.specs.Encoding.{Request, command, move, sweep, command_of, request_of}
use Rattle.request.specs.Requests.{steps_for, leaves, answer_byte, Stepped}

pub as_asked : {x y : Request} {m n : Memory} {r : ℕ} → x ≡ y → Stepped y m n r → Stepped x m n r
as_asked {x} {y} {m} {n} {r} e = subst (λ (z : Request). Stepped z m n r) (sym e)

-- a command
pub obeyed : {x y : Command} {m n : Memory} {r : Answer} → x ≡ y → Carried (rule y) (effect y) m n r → Call m n (Steps.command y ∷ []) (answered r ∷ [])
    → Stepped (command x) m n (answered r)
unfolding answer_byte leaves steps_for
obeyed {x} {y} {m} {n} {r} e c k = as_asked (ap command e) (record { answer = c.answer; memory = c.bytes; call = (answered r ∷ [], k) })

-- a move of the queue of two bytes
pub moved : (a d : ℕ) (ws qs rs : List ℕ) (r : ℕ) (m : Moved) → a < 256 → d < 256 → r ≡ moved_number m → Moving (a * 256 + d) ws qs rs m
    → Stepped (move a d) (memory ws qs) (memory ws rs) r
unfolding answer_byte leaves steps_for queue_of
moved a d ws qs rs r m ha hd f c =
    let queue : a * 256 + d ≡ a % 256 * 256 + d % 256 = omega arith in
    record {
      answer = f ∙ ap moved_number c.answer ∙ ap (λ (n : ℕ). moved_number (move_answer n (state_in ws qs))) queue;
      memory = ap (memory ws) c.drivers ∙ ap (λ (n : ℕ). memory ws (move_bytes ws n qs)) queue;
      call = ([], moves a d m ha hd c refl);
    }

-- a sweep
swept_byte : (t more : Bool) (r : ℕ) → more ≡ not t → r ≡ cond more 1 0 → r ≡ cond t 0 1
swept_byte true more r e f = f ∙ ap (λ (b : Bool). cond b 1 0) e
swept_byte false more r e f = f ∙ ap (λ (b : Bool). cond b 1 0) e

pub swept : (b : ℕ) (ws qs rs : List ℕ) (r : ℕ) (w : Swept) → r ≡ cond w.more 1 0 → Sweeping b ws qs rs w
    → Stepped (sweep b) (memory ws qs) (memory ws rs) r
unfolding answer_byte leaves steps_for
swept b ws qs rs r w f c =
    let s = state_in ws qs in
    let left : state_in ws rs ≡ after_all (sweep_steps b s) s = c.sweep.made ∙ sym (sweep_steps_lem b s) in
    record {
      answer = swept_byte (eqb (remaining (after_all (sweep_steps b s) s)) 0) w.more r (c.sweep.remain ∙ ap (λ (t : State). not (eqb (remaining t) 0)) left) f;
      memory = ap (memory ws) c.drivers;
      call = ([], sweeps b w c refl);
    }

-- ---- the request of an operation: a command, a sweep, or a move

pub is_command : (b : List ℕ) → get_or b 0 0 ≤ 8 → request_of b ≡ command (command_of (get_or b 0 0) (kind_of (get_or b 1 0)) (id_of (drop 2 b)) (drop 20 b))
unfolding request_of
is_command b h = rw (le-leb (get_or b 0 0) 8 h)

pub is_sweep : (b : List ℕ) → get_or b 0 0 ≡ 10 → request_of b ≡ sweep (half_at (drop 2 b) 0)
unfolding request_of
is_sweep b e = rw e

pub is_move : (b : List ℕ) → 8 < get_or b 0 0 → (get_or b 0 0 ≡ 10 → ⊥) → request_of b ≡ move (get_or b 2 0) (get_or b 3 0)
unfolding request_of
is_move b h t = rw (lt-leb (get_or b 0 0) 8 h, ne_eqb (get_or b 0 0) 10 t)
