-- From what a function of the service promises to what a caller in C is promised.
-- Assumes nothing.
use Prim.Native.Nat.{ℕ}
use mathlib.Core.List.{List, [], ◌∷◌}
use mathlib.Core.Path.{◌≡◌, refl, sym, ap, subst, ◌∙◌}
use Rattle.rules.specs.declared.Configuration.{Configuration}
use Rattle.rules.specs.declared.Id.{Id}
use Rattle.rules.specs.declared.Kind.{Kind}
use Rattle.rules.specs.Commands as Commands
use Rattle.rules.specs.Commands.{Answer, answered, unassign_number}
use Rattle.layout.specs.Carried.{Memory, memory, Carried, CarriedWords}
use Rattle.assignnumber.specs.Numbers.{AssigningNumber, unassigned_from}
use Rattle.assign.specs.Numbers.{unassigned, Assigning}
use Rattle.assign.proofs.Laws.{assigned_as_text, unassigned_as_text}
use Rattle.create.specs.Created.{created}
use Rattle.devices.specs.Effects.{removed, opened, closed}
use Rattle.host.specs.Masks.{with_apmask, with_aqmask}
use Rattle.configure.specs.Configured.{configured}
use Rattle.sweep.specs.Sweeps.{Sweeping}
use Rattle.model.specs.Steps.{Command, create, remove, open_it, close_it, assign, unassign, set_apmask, set_aqmask, configure, rule}
use Rattle.model.specs.Steps as Steps
use Rattle.calls.specs.Calls.{effect, Freshened, Call, fresh_refused, creates, removes, opens, closes, assigns, unassigns, sets_apmask, sets_aqmask, configures, sweeps, begins}
use Rattle.encoding.specs.Encoding.{command}
use Rattle.request.specs.Requests.{Stepped}
use Rattle.request.proofs.Laws.{obeyed}
use Rattle.shown.specs.Shown.{SweepLeft}
use Rattle.served.specs.Served.{FreshServed, AssignServed, NumberAssigned, NumberUnassigned, SweepServed}

-- an answer a, of which r is the number
module _ {a : Answer} {r : ℕ} (f : r ≡ answered a) where
  -- fresh
  pub freshened : {x y : ℕ} {m n : Memory} → Freshened x y m n a → FreshServed x y m n r
  freshened {x} {y} c =
      record {
        made = record { outcome = a; kept = c; numbered = f };
        begins = λ z. begins x y a c (sym f ∙ z);
        refused = λ z. fresh_refused x y a c (λ e. z (f ∙ e));
      }

  -- a command y that is the command x
  as_command : {x y : Command} {m n : Memory} → x ≡ y → Carried (rule y) (effect y) m n a → Call m n (Steps.command y ∷ []) (answered a ∷ [])
      → Stepped (command x) m n r
  as_command {x} {y} {m} {n} e c k = subst (λ (s : ℕ). Stepped (command x) m n s) (sym f) (obeyed e c k)

  -- commands that are lent the words alone; i is the id that was read, and j the id that is lent
  module _ {ws vs qs : List ℕ} {i j : Id} (e : i ≡ j) where
    pub created_as : CarriedWords (Commands.create i) (created i) ws vs a → Stepped (command (create j)) (memory ws qs) (memory vs qs) r
    unfolding rule effect
    created_as c = as_command (ap create (sym e)) (c qs) (creates i a (record { words = c; drivers = refl }))

    pub removed_as : CarriedWords (Commands.remove i) (removed i) ws vs a → Stepped (command (remove j)) (memory ws qs) (memory vs qs) r
    unfolding rule effect
    removed_as c = as_command (ap remove (sym e)) (c qs) (removes i a (record { words = c; drivers = refl }))

    pub opened_as : CarriedWords (Commands.open_device i) (opened i) ws vs a → Stepped (command (open_it j)) (memory ws qs) (memory vs qs) r
    unfolding rule effect
    opened_as c = as_command (ap open_it (sym e)) (c qs) (opens i a (record { words = c; drivers = refl }))

    pub closed_as : CarriedWords (Commands.close_device i) (closed i) ws vs a → Stepped (command (close_it j)) (memory ws qs) (memory vs qs) r
    unfolding rule effect
    closed_as c = as_command (ap close_it (sym e)) (c qs) (closes i a (record { words = c; drivers = refl }))

    module _ {k : Kind} where
      -- by text
      module _ {text : List ℕ} where
        assigned_step : Assigning k i text ws vs a → Stepped (command (assign k j text)) (memory ws qs) (memory vs qs) r
        unfolding rule effect
        assigned_step c = as_command (ap (λ (x : Id). assign k x text) (sym e)) (c.rule qs) (assigns k i text a c refl)

        pub assigned_as : Assigning k i text ws vs a → AssignServed k j text (memory ws qs) (memory vs qs) r
        assigned_as c = record { step = assigned_step c; exactly = record { outcome = a; kept = rw e at c.exactly; numbered = f } }

        pub unassigned_as : CarriedWords (Commands.unassign k i text) (unassigned k i text) ws vs a
            → Stepped (command (unassign k j text)) (memory ws qs) (memory vs qs) r
        unfolding rule effect
        unassigned_as c = as_command (ap (λ (x : Id). unassign k x text) (sym e)) (c qs) (unassigns k i text a (record { words = c; drivers = refl }))

      -- by number
      module _ {x : ℕ} where
        pub number_assigned : AssigningNumber k i x ws vs a → NumberAssigned k j x (memory ws qs) (memory vs qs) r
        number_assigned c =
            record { rule = record { outcome = a; kept = rw e at c; numbered = f }; step = assigned_step (assigned_as_text k i ws x c) }

        pub number_unassigned : CarriedWords (unassign_number k i x) (unassigned_from k i x) ws vs a → NumberUnassigned k j x (memory ws qs) (memory vs qs) r
        number_unassigned c =
            record { rule = record { outcome = a; kept = rw e at c; numbered = f }; step = unassigned_as (unassigned_as_text k i ws x c) }

  module _ {ws vs qs : List ℕ} where
    pub apmask_as : {text : List ℕ} → CarriedWords (Commands.set_apmask text) (with_apmask text) ws vs a → Stepped (command (set_apmask text)) (memory ws qs) (memory vs qs) r
    unfolding rule effect
    apmask_as {text} c = as_command refl (c qs) (sets_apmask text a (record { words = c; drivers = refl }))

    pub aqmask_as : {text : List ℕ} → CarriedWords (Commands.set_aqmask text) (with_aqmask text) ws vs a → Stepped (command (set_aqmask text)) (memory ws qs) (memory vs qs) r
    unfolding rule effect
    aqmask_as {text} c = as_command refl (c qs) (sets_aqmask text a (record { words = c; drivers = refl }))

  -- a configuration g that was read as h
  pub configured_as : {g h : Configuration} {m n : Memory} → g ≡ h → Carried (Commands.configure g) (configured g) m n a → Stepped (command (configure h)) m n r
  unfolding rule effect
  configured_as {g} e c = as_command (ap configure (sym e)) c (configures g a c)

-- a sweep
pub swept_as : {b : ℕ} {ws qs rs : List ℕ} {more r : ℕ} → SweepLeft (Sweeping b ws qs rs) more r → SweepServed b (memory ws qs) (memory ws rs) more r
swept_as {b} c = record { left = c; words = refl; call = sweeps b c.swept c.kept refl }
