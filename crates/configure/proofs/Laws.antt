-- Setting the configuration.
-- Assumes nothing.
use Rattle.std.proofs.Common.{Ok, Err}
use Prim.Native.Nat.{ℕ}
use mathlib.Core.Bool.{Bool, true, false, cond, not, ◌&&◌}
use mathlib.Core.List.{List}
use mathlib.Core.Path.{◌≡◌, sym, ap, ap₂}
use denote.Laws.{Is}
use mir.Val.{Val}
use lib.ListN.{length}
use Rattle.errno.specs.Outcome.{granted, refused}
use Rattle.errno.specs.declared.Errno.TheVariants.{Enodev}
use Rattle.mask.specs.Bits.{bits}
use Rattle.mask.proofs.Laws.{mask_words_lem}
use Rattle.rules.specs.contracts.Configuration.{the_row}
use Rattle.rules.specs.declared.Configuration.{Configuration}
use Rattle.rules.specs.State.{queues, in_product}
use Rattle.rules.specs.Queues.{configured}
use Rattle.rules.specs.Commands.{beyond_limits, stored, with_config, configure}
use Rattle.layout.specs.Carried.{memory, Carried}
use Rattle.layout.specs.Layout.{word_count, limits_in, config_in, state_in, put_config, unbind, taken_away}
use Rattle.layout.proofs.Laws.{carried_refused, carried_granted, read_config}
use Rattle.product.specs.declared.Product.{Product}
use Rattle.product.specs.Meet.{queues_of}
use Rattle.unbind.specs.Gone.{gone}
use Rattle.configure.specs.Configured.{configured as configuredBy}

module _ (g : Configuration) (ws : List ℕ) where
  -- the queues that are configured no more, by those that were
  pub gone_away : (was : Product) → queues_of was ≡ configured (config_in ws)
      → gone was (record { adapters = g.adapters; domains = g.domains }) ≡ taken_away ws g
  unfolding taken_away configured stored
  gone_away was e = λ i k. e i k && not (in_product (bits g.adapters) (bits g.domains) k)

  module _ (qs : List ℕ) where
    by_test : (t : Bool) → t ≡ beyond_limits (limits_in ws) g
        → configure g (state_in ws qs) ≡ cond t (refused Enodev) (granted (with_config (stored g) (state_in ws qs)))
    unfolding configure state_in
    by_test t e = ap (λ (b : Bool). cond b (refused Enodev) (granted (with_config (stored g) (state_in ws qs)))) (sym e)

    pub config_refused : true ≡ beyond_limits (limits_in ws) g → Carried (configure g) (configuredBy g) (memory ws qs) (memory ws qs) (Err Enodev)
    config_refused e = carried_refused (configure g) (configuredBy g) (memory ws qs) Enodev (by_test true e)

    -- the configuration's masks have four words each, by what owning it tells
    pub config_done : {vs rs : List ℕ} {owned : List Val} → false ≡ beyond_limits (limits_in ws) g → vs ≡ put_config ws g → rs ≡ unbind qs (taken_away ws g) queues
        → Is the_row g owned → length ws ≡ word_count → length qs ≡ queues → Carried (configure g) (configuredBy g) (memory ws qs) (memory vs rs) (Ok tt)
    config_done {vs} {rs} e p q o l k =
        carried_granted (configure g) (configuredBy g) (memory ws qs) (memory vs rs) (with_config (stored g) (state_in ws qs)) (ap₂ memory p q) (by_test false e)
        (read_config ws g l (mask_words_lem g.adapters o.1.1.0) (mask_words_lem g.domains o.1.1.1.0) (mask_words_lem g.controls o.1.1.1.1.0) qs k)
