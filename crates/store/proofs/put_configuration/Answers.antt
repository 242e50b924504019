-- `put_configuration` meets its contract: three masks are put, then the types.
use Prim.Native.Nat.{ℕ, ◌+◌}
use mathlib.Core.Bool.{cond}
use mathlib.Core.List.{List}
use mathlib.Core.Path.{ap, ◌∙◌}
use lib.ListN.{get_or}
use Rattle.mask.specs.Bits.{bits}
use Rattle.layout.specs.Layout.{config_at, put_four, put_types, put_config}
use Rattle.store.proofs.put_configuration.Goals as goal

pub returns : goal.returns
unfolding put_config
returns c =
    let g = c.args.configuration in
    c.put_types.ensures
    ∙ ap (λ (ws : List ℕ). put_types ws (λ a. cond (bits g.adapters a) (get_or g.types a 0) 0) 256)
    (c.put_mask-3.ensures
    ∙ ap (λ (ws : List ℕ). put_four ws (config_at + 8) g.controls.words)
    (c.put_mask-2.ensures
    ∙ ap (λ (ws : List ℕ). put_four ws (config_at + 4) g.domains.words) c.put_mask.ensures))
