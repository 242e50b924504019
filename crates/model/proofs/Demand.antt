-- Demand 3, for every list of commands and moves on a fresh record of any limits.
-- Assumes nothing.
use mathlib.Core.Bool.{true, false, true≢false}
use mathlib.Core.List.{List}
use mathlib.Core.Path.{◌≡◌, refl, sym, ap, subst, ◌∙◌}
use Rattle.rules.specs.declared.Driver.TheVariants.{Host}
use Rattle.rules.specs.State.{Limits, State, fresh}
use Rattle.rules.specs.Queues.{passed}
use Rattle.model.specs.Steps.{Step, commands_of, after_all}
use Rattle.model.specs.Model.{Model, start, replies, kept}
use Rattle.model.specs.Demand3.{Kept, Follows, Demand3}
use Rattle.model.proofs.Agreement.{erase, all_answers, all_kept, erase_fresh}
use Rattle.model.proofs.Exclusion.{Exclusive, after_all_lem, fresh_exclusive, usable_product, usable_open, usable_passed}
use Rattle.model.proofs.Settling.{follows, due_move_lem, idle_move_lem}

-- a state keeps what is left of it without its drivers
kept_erased : (s : State) → Kept s (erase s)
unfolding erase
kept_erased s =
    record {
      highest_adapter = refl;
      highest_domain = refl;
      apmask = refl;
      aqmask = refl;
      adapters = refl;
      domains = refl;
      controls = refl;
      types = refl;
      device = refl;
    }

host_not_passed : passed Host ≡ false
unfolding passed
host_not_passed = refl

module _ (l : Limits) (steps : List Step) where
  abbrev last : State
  last = after_all steps (fresh l)

  abbrev model : Model
  model = kept (commands_of steps) (start l.adapter l.domain)

  -- what the model keeps at the end
  at_end : erase last ≡ model
  at_end = sym (all_kept steps (fresh l)) ∙ ap (kept (commands_of steps)) (erase_fresh l)

  alone : Exclusive last
  alone = after_all_lem steps (fresh l) (fresh_exclusive l)

  pub demand3 : Demand3 l steps (after_all steps (fresh l))
  demand3 =
      record {
        answered = all_answers steps (fresh l) ∙ ap (replies (commands_of steps)) (erase_fresh l);
        keeps = subst (λ (m : Model). Kept last m) at_end (kept_erased last);
        apart =
            λ p j q lp lj lq a b. alone.apart p j q lp lj lq
            (usable_product last (last.device p) q (alone.there p (usable_open last (last.device p) q a)) a)
            (usable_product last (last.device j) q (alone.there j (usable_open last (last.device j) q b)) b);
        not_host = λ p q lp lq u e. true≢false (sym (usable_passed last (last.device p) q u) ∙ ap passed e ∙ host_not_passed);
        settled = λ still. subst (λ (m : Model). Follows last m) at_end (follows last still);
        due_move = due_move_lem last;
        idle_move = idle_move_lem last;
      }
