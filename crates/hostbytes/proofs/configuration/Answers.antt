-- `configuration` meets its contract: the three masks are those of the configuration.
use Rattle.std.proofs.Common.{List, ℕ, ◌++◌, ◌∙◌, ap, length, arith}
use Rattle.layout.specs.Lent.{config}
use Rattle.hostbytes.specs.Configurations.{type_bytes, configuration_bytes}
use Rattle.hostbytes.proofs.Laws.{masks_long, types_long, both_written}
use Rattle.hostbytes.proofs.configuration.Goals as goal

pub returns : goal.returns
unfolding configuration_bytes
returns c =
    let t = config c.args.words in
    let front = c.copy_from_slice.ensures.after ∙ c.put_masks.ensures in
    both_written c.args.out.now c.copy_from_slice.new.self c.put_types.new.out (omega arith)
    (ap length front ∙ masks_long _ _ _) (ap length c.put_types.ensures ∙ types_long t)
    ∙ rw c.put_types.ensures
    (ap (λ (l : List ℕ). l ++ type_bytes t) front
    ∙ rw (c.configured_controls.ensures, c.configured_domains.ensures, c.configured_adapters.ensures))
