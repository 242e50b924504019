-- Every chain of calls leaves what the rules make of its list, and demand 3 holds of it.
-- Assumes nothing.
use Prim.Native.Nat.{ℕ, ◌+◌, ◌*◌, ◌%◌, ◌<◌}
use native.Mathlib.Omega.{arith}
use mathlib.Core.Bool.{Bool, true, false, cond, ◌&&◌}
use mathlib.Core.List.{List, [], ◌∷◌, ◌++◌}
use mathlib.Core.Path.{◌≡◌, refl, sym, ap, ap₂, subst, ◌∙◌}
use lib.Dec.{leb}
use Rattle.errno.specs.declared.Errno.TheVariants.{Einval}
use Rattle.errno.specs.Errno.{number_of}
use Rattle.errno.specs.Outcome.{granted, refused}
use Rattle.rules.specs.State.{Limits, fresh}
use Rattle.rules.specs.Queues as Queues
use Rattle.rules.specs.Commands.{Answer, answered, errno_of, state_after}
use Rattle.layout.specs.Layout.{state_in}
use Rattle.layout.specs.Carried.{Memory, read, Carried}
use Rattle.setup.specs.Fresh.{start, fresh_memory}
use Rattle.rules.specs.Sweeps.{swept, move_each}
use Rattle.create.specs.Created.{created}
use Rattle.devices.specs.Effects.{removed, opened, closed}
use Rattle.assign.specs.Numbers.{assigned, unassigned}
use Rattle.host.specs.Masks.{with_apmask, with_aqmask}
use Rattle.model.specs.Steps.{Command, create, remove, open_it, close_it, assign, unassign, set_apmask, set_aqmask, configure, Step, command, move, queue_of, rule, after, after_all, answers}
use Rattle.model.specs.Sweeps.{sweep_steps}
use Rattle.model.specs.Demand3.{Demand3}
use Rattle.model.proofs.Demand.{demand3}
use Rattle.model.proofs.Sweeping.{after_append, answers_append, sweep_steps_lem, answers_moves}
use Rattle.calls.specs.Calls.{OnWords, Call, fresh_refused, creates, removes, opens, closes, assigns, unassigns, sets_apmask, sets_aqmask, configures, moves, sweeps, Chain, begins, goes_on, Demanded}

-- ---- one call

-- what a call does, read by the rules
pub record Read (m n : Memory) (steps : List Step) (rs : List ℕ) : Type 0 where
  pub state : read n ≡ after_all steps (read m)
  pub said : rs ≡ answers steps (read m)

-- a command
obeyed : (x : Command) (m n : Memory) (r : Answer) → answered r ≡ errno_of (rule x (read m)) → read n ≡ state_after (read m) (rule x (read m))
    → Read m n (command x ∷ []) (answered r ∷ [])
unfolding after_all after answers
obeyed x m n r a s = record { state = s; said = ap (λ (e : ℕ). e ∷ []) a }

on_words_lem : (x : Command) (change : List ℕ → List ℕ) (m n : Memory) (r : Answer) → OnWords (rule x) change m n r → Read m n (command x ∷ []) (answered r ∷ [])
on_words_lem x change m n r c =
    let k = c.words m.drivers in
    obeyed x m n r k.answer (ap (state_in n.words) c.drivers ∙ k.state)

-- a fresh that is refused leaves the memory as it was
not_fresh : (a d : ℕ) (m n : Memory) (r : Answer) → Carried (start a d) (λ k. fresh_memory a d) m n r → (answered r ≡ 0 → ⊥) → Read m n [] []
unfolding start after_all answers errno_of state_after
not_fresh a d m n r c h = go (leb a 255 && leb d 255) c.answer c.state
  where
    go : (b : Bool) → answered r ≡ errno_of (cond b (granted (fresh (record { adapter = a; domain = d }))) (refused Einval))
        → read n ≡ state_after (read m) (cond b (granted (fresh (record { adapter = a; domain = d }))) (refused Einval)) → Read m n [] []
    go true e s = absurd (h e)
    go false e s = record { state = s; said = refl }

-- a move
one_move : (a d : ℕ) (m n : Memory) → a < 256 → d < 256 → state_in m.words n.drivers ≡ Queues.move (a * 256 + d) (read m) → n.words ≡ m.words
    → Read m n (move a d ∷ []) []
unfolding after_all after answers queue_of
one_move a d m n la ld s e =
    let queue : a * 256 + d ≡ a % 256 * 256 + d % 256 = omega arith in
    record { state = ap (λ (ws : List ℕ). state_in ws n.drivers) e ∙ s ∙ ap (λ (q : ℕ). Queues.move q (read m)) queue; said = refl }

-- a sweep is the moves that it makes
all_moves : (b : ℕ) (m n : Memory) → state_in m.words n.drivers ≡ move_each (swept b (read m)) (read m) → n.words ≡ m.words
    → Read m n (sweep_steps b (read m)) []
all_moves b m n s e =
    record {
      state = ap (λ (ws : List ℕ). state_in ws n.drivers) e ∙ s ∙ sym (sweep_steps_lem b (read m));
      said = sym (answers_moves b (read m) (read m));
    }

pub called : {m n : Memory} {steps : List Step} {rs : List ℕ} → Call m n steps rs → Read m n steps rs
unfolding rule
called {m} {n} (fresh_refused a d r c h) = not_fresh a d m n r c h
called {m} {n} (creates i r c) = on_words_lem (create i) (created i) m n r c
called {m} {n} (removes i r c) = on_words_lem (remove i) (removed i) m n r c
called {m} {n} (opens i r c) = on_words_lem (open_it i) (opened i) m n r c
called {m} {n} (closes i r c) = on_words_lem (close_it i) (closed i) m n r c
called {m} {n} (assigns k i text r c e) = on_words_lem (assign k i text) (assigned k i text) m n r (record { words = c.rule; drivers = e })
called {m} {n} (unassigns k i text r c) = on_words_lem (unassign k i text) (unassigned k i text) m n r c
called {m} {n} (sets_apmask text r c) = on_words_lem (set_apmask text) (with_apmask text) m n r c
called {m} {n} (sets_aqmask text r c) = on_words_lem (set_aqmask text) (with_aqmask text) m n r c
called {m} {n} (configures g r c) = obeyed (configure g) m n r c.answer c.state
called {m} {n} (moves a d r la ld c e) = one_move a d m n la ld c.state e
called {m} {n} (sweeps b r c e) = all_moves b m n c.sweep.made e

-- ---- a chain

-- a fresh that is accepted
made_fresh : (a d : ℕ) (m n : Memory) (r : Answer) → Carried (start a d) (λ k. fresh_memory a d) m n r → answered r ≡ 0
    → read n ≡ fresh (record { adapter = a; domain = d })
unfolding start errno_of state_after number_of
made_fresh a d m n r c h = go (leb a 255 && leb d 255) c.answer c.state
  where
    go : (b : Bool) → answered r ≡ errno_of (cond b (granted (fresh (record { adapter = a; domain = d }))) (refused Einval))
        → read n ≡ state_after (read m) (cond b (granted (fresh (record { adapter = a; domain = d }))) (refused Einval))
        → read n ≡ fresh (record { adapter = a; domain = d })
    go true e s = s
    go false e s = absurd (omega arith)

-- what the rules make of a chain's list
pub record Reached (l : Limits) (m : Memory) (steps : List Step) (rs : List ℕ) : Type 0 where
  pub state : read m ≡ after_all steps (fresh l)
  pub said : rs ≡ answers steps (fresh l)

pub reached : {l : Limits} {m : Memory} {steps : List Step} {rs : List ℕ} → Chain l m steps rs → Reached l m steps rs
unfolding after_all answers
reached (begins {m} {n} a d r c e) = record { state = made_fresh a d m n r c e; said = refl }
reached (goes_on {l} {m} {n} {xs} {ys} {rs} {ss} h c) =
    let k = reached h in
    let t = called c in
    record {
      state = t.state ∙ ap (after_all ys) k.state ∙ sym (after_append xs ys (fresh l));
      said = ap₂ ◌++◌ k.said (t.said ∙ ap (answers ys) k.state) ∙ sym (answers_append xs ys (fresh l));
    }

-- demand 3 over calls
pub demanded : {l : Limits} {m : Memory} {steps : List Step} {rs : List ℕ} → Chain l m steps rs → Demanded l m steps rs
demanded {l} {m} {steps} {rs} h =
    let k = reached h in
    let d = subst (Demand3 l steps) (sym k.state) (demand3 l steps) in
    record {
      state = k.state;
      said = k.said;
      demand = d;
      none = λ r c e. d.settled (c.none.0 e);
      swept = λ b s used more c e. d.settled (c.settled.0 e);
      full = λ b s used more c e. d.settled (c.full e);
    }
