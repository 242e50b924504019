-- The byte that a move writes, read as a move of the state.
-- Assumes nothing.
use Prim.Native.Nat.{ℕ, ◌<◌}
use mathlib.Core.Path.{◌≡◌, refl, ap, ◌∙◌, fun_ext}
use mathlib.Core.Bool.{Bool, true, false, cond}
use mathlib.Core.List.{List}
use lib.ListN.{length, get_or, length-set}
use lib.Seq.{get_or-set_other}
use lib.Dec.{eqb}
use borrow.Author.Tests.{eqb-true}
use Rattle.rules.specs.declared.Driver.{Driver}
use Rattle.rules.specs.declared.Driver.TheVariants.{Unbound, Host, Passthrough}
use Rattle.rules.specs.declared.Moved.{Moved}
use Rattle.rules.specs.declared.Moved.TheVariants.{Idle, Released, BoundHost, BoundPassthrough}
use Rattle.rules.specs.Queues.{target_of, moved, after, rebound, move_answer, move}
use Rattle.layout.specs.Layout.{state_in, host_in, config_in, driver_of, byte_of}
use Rattle.layout.proofs.Laws.{read_rebound}
use Rattle.bind.specs.Moves.{bytes_after, move_bytes, Moving}

-- a queue that is given the driver it has
same_driver : (n : ℕ) (ds : ℕ → Driver) (q : ℕ) → ds q ≡ rebound n (ds n) ds q
unfolding rebound
same_driver n ds q = go (eqb q n) refl
  where
    go : (b : Bool) → eqb q n ≡ b → ds q ≡ cond b (ds n) (ds q)
    go true e = ap ds (eqb-true q n e)
    go false e = refl

-- the bytes after any answer are read as the drivers after it
read_after : (ws qs : List ℕ) (n : ℕ) (m : Moved) → n < length qs
    → state_in ws (bytes_after m n qs)
    ≡ record {
      limits = (state_in ws qs).limits;
      host = (state_in ws qs).host;
      config = (state_in ws qs).config;
      device = (state_in ws qs).device;
      driver = rebound n (after ((state_in ws qs).driver n) m) (state_in ws qs).driver;
    }
unfolding bytes_after after
read_after ws qs n Idle h =
    let s = state_in ws qs in
    let e = fun_ext (same_driver n s.driver) in
    λ i. record { limits = s.limits; host = s.host; config = s.config; device = s.device; driver = e i }
read_after ws qs n Released h = read_rebound qs n Unbound ws h
read_after ws qs n BoundHost h = read_rebound qs n Host ws h
read_after ws qs n BoundPassthrough h = read_rebound qs n Passthrough ws h

pub read_move : (ws qs : List ℕ) (n : ℕ) → n < length qs → state_in ws (move_bytes ws n qs) ≡ move n (state_in ws qs)
unfolding move_bytes move
read_move ws qs n h = read_after ws qs n (move_answer n (state_in ws qs)) h

after_length : (m : Moved) (n : ℕ) (qs : List ℕ) → length (bytes_after m n qs) ≡ length qs
unfolding bytes_after
after_length Idle n qs = refl
after_length Released n qs = simp length-set
after_length BoundHost n qs = simp length-set
after_length BoundPassthrough n qs = simp length-set

pub move_length : (ws qs : List ℕ) (n : ℕ) → length (move_bytes ws n qs) ≡ length qs
unfolding move_bytes
move_length ws qs n = after_length (move_answer n (state_in ws qs)) n qs

-- the bytes of the other queues
after_other : (m : Moved) (n j : ℕ) (qs : List ℕ) → (j ≡ n → ⊥) → get_or (bytes_after m n qs) j 0 ≡ get_or qs j 0
unfolding bytes_after
after_other Idle n j qs h = refl
after_other Released n j qs h = get_or-set_other qs n j (byte_of Unbound) 0 h
after_other BoundHost n j qs h = get_or-set_other qs n j (byte_of Host) 0 h
after_other BoundPassthrough n j qs h = get_or-set_other qs n j (byte_of Passthrough) 0 h

pub move_other : (ws qs : List ℕ) (n j : ℕ) → (j ≡ n → ⊥) → get_or (move_bytes ws n qs) j 0 ≡ get_or qs j 0
unfolding move_bytes
move_other ws qs n j h = after_other (move_answer n (state_in ws qs)) n j qs h

-- the bytes after a move whose answer is known
pub bytes_by : (ws qs : List ℕ) (n : ℕ) (m : Moved) → m ≡ move_answer n (state_in ws qs) → bytes_after m n qs ≡ move_bytes ws n qs
unfolding move_bytes
bytes_by ws qs n m e = ap (λ (x : Moved). bytes_after x n qs) e

-- a move, by its answer and the bytes that it leaves
pub moving : (ws qs rs : List ℕ) (n : ℕ) (m : Moved) → n < length qs → m ≡ move_answer n (state_in ws qs) → rs ≡ bytes_after m n qs → Moving n ws qs rs m
moving ws qs rs n m h e b =
    let d : rs ≡ move_bytes ws n qs = b ∙ bytes_by ws qs n m e in
    record { answer = e; state = ap (state_in ws) d ∙ read_move ws qs n h; drivers = d }

-- what a move answers, by the queue's byte and its target
pub answer_read : (ws qs : List ℕ) (n : ℕ) → moved (driver_of (get_or qs n 0)) (target_of (host_in ws) (config_in ws) n) ≡ move_answer n (state_in ws qs)
unfolding move_answer state_in
answer_read ws qs n = refl
