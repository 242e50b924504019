-- Demand 3 (RULES.md, "Reference model and demand 3"): one statement on every list of commands and moves on a fresh record
-- of any limits.
-- Assumes nothing.
use Rattle.std.specs.Prelude.{ℕ, ◌<◌, ◌+◌, ◌*◌, true, List, ◌≡◌}
use Rattle.rules.specs.declared.Driver.TheVariants.{Host}
use Rattle.rules.specs.declared.Moved.TheVariants.{Idle}
use Rattle.rules.specs.State.{Limits, State, fresh, slots, queues}
use Rattle.rules.specs.Queues as Queues
use Rattle.rules.specs.Queues.{remaining, move_answer, usable, Settled}
use Rattle.model.specs.Steps.{Step, commands_of, answers}
use Rattle.model.specs.Model.{Model, start, replies, kept}
use Rattle.model.specs.Model as Model

-- the state, without its drivers, is what the model keeps
pub record Kept (s : State) (m : Model) : Type 0 where
  pub highest_adapter : s.limits.adapter ≡ m.highest_adapter
  pub highest_domain : s.limits.domain ≡ m.highest_domain
  pub apmask : s.host.apmask ≡ m.apmask
  pub aqmask : s.host.aqmask ≡ m.aqmask
  pub adapters : s.config.adapters ≡ m.adapters
  pub domains : s.config.domains ≡ m.domains
  pub controls : s.config.controls ≡ m.controls
  pub types : s.config.types ≡ m.types
  pub device : s.device ≡ m.device

-- every driver and every device's guest masks are the model's
pub record Follows (s : State) (m : Model) : Type 0 where
  pub drivers : (a d : ℕ) → a < 256 → d < 256 → s.driver (a * 256 + d) ≡ Model.driver m a d
  pub guest_adapters : (p a : ℕ) → p < slots → a < 256
      → Queues.guest_adapters s (s.device p) a ≡ Model.guest_adapters m (m.device p) a
  pub guest_domains : (p d : ℕ) → p < slots → d < 256
      → Queues.guest_domains s (s.device p) d ≡ Model.guest_domains m (m.device p) d
  pub guest_controls : (p d : ℕ) → p < slots → d < 256
      → Queues.guest_controls s (s.device p) d ≡ Model.guest_controls m (m.device p) d

-- the statement on one list, of the state that the list's steps lead to
pub record Demand3 (l : Limits) (steps : List Step) (s : State) : Type 0 where
  -- 1: each command's answer is the model's
  pub answered : answers steps (fresh l) ≡ replies (commands_of steps) (start l.adapter l.domain)
  -- 2: host masks, configuration and devices (ids, open marks, assigned masks) are the model's
  pub keeps : Kept s (kept (commands_of steps) (start l.adapter l.domain))
  -- 3: no queue is usable by two guests, nor by a guest while a host driver holds it
  pub apart : (p j q : ℕ) → p < slots → j < slots → q < queues → usable s (s.device p) q ≡ true → usable s (s.device j) q ≡ true
      → p ≡ j
  pub not_host : (p q : ℕ) → p < slots → q < queues → usable s (s.device p) q ≡ true → s.driver q ≡ Host → ⊥
  -- 4: where no move is due, drivers and guest masks are the model's
  pub settled : Settled s → Follows s (kept (commands_of steps) (start l.adapter l.domain))
  -- 5: a due move lowers the moves remaining by exactly one, and an idle one leaves them
  pub due_move : (q : ℕ) → q < queues → (move_answer q s ≡ Idle → ⊥) → remaining (Queues.move q s) + 1 ≡ remaining s
  pub idle_move : (q : ℕ) → q < queues → move_answer q s ≡ Idle → remaining (Queues.move q s) ≡ remaining s
