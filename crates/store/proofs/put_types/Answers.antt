-- `put_types` meets its contract.
use Rattle.std.proofs.Common.{refl, Bool, cond, get_or, ap, ◌∙◌}
use Rattle.mask.specs.Bits.{bits}
use Rattle.layout.specs.Layout.{put_types}
use Rattle.layout.proofs.Laws.{types_next}
use Rattle.store.proofs.put_types.Goals as goal

pub loop-a-init : goal.loop-a-init
unfolding put_types
loop-a-init c = refl

pub loop-a-preserved : goal.loop-a-preserved
loop-a-preserved c =
    let r = c.args in
    let a = c.loop-a.a in
    types_next r.words.now c.loop-a.words (λ i. cond (bits r.adapters i) (get_or r.types i 0) 0) a c.type_of.result c.loop-a.invariant
    (c.type_of.ensures ∙ ap (λ (b : Bool). cond b (get_or r.types a 0) 0) c.has.ensures)
