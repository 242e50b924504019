-- `put_types` meets its contract.
use Rattle.std.proofs.Common.{ℕ, ◌≢◌, ◌<◌, ◌∙◌, ap, min, length, arith, get_or-set_other, get_or-set_same, below_more}
use Rattle.std.proofs.lemmas.Grind.{same_number_lists}
use Rattle.layout.specs.Layout.{config_in}
use Rattle.hostbytes.specs.Configurations.{type_bytes}
use Rattle.hostbytes.proofs.Laws.{types_long, type_at}
use Rattle.hostbytes.proofs.put_types.Goals as goal

pub loop-adapter-preserved : goal.loop-adapter-preserved
loop-adapter-preserved c =
    let l = c.loop-adapter in
    below_more _ _
    (λ j h. let other : j ≢ l.adapter = omega arith in rw get_or-set_other (l.invariant j h))
    (let within : l.adapter < length l.out = omega arith in
    rw get_or-set_same (c.type_byte.ensures ∙ ap (λ (t : ℕ). min t 255) c.hardware_type.ensures
    ∙ type_at (config_in c.args.words.now) l.adapter (omega arith)))

pub returns : goal.returns
returns c =
    let l = c.loop-adapter in
    let t = config_in c.args.words.now in
    same_number_lists l.out (type_bytes t) (omega (arith, types_long t)) (λ j h. l.invariant j (omega arith))
