-- `fill` meets its contract.
use Rattle.std.proofs.Common.{◌≢◌, ◌<◌, length, arith, refl, get_or-set_other, get_or-set_same, below_more}
use Rattle.std.proofs.lemmas.Grind.{same_number_lists}
use Rattle.copy.proofs.fill.Goals as goal

pub loop-i-preserved : goal.loop-i-preserved
loop-i-preserved c =
    let l = c.loop-i in
    below_more _ _ (λ j h. let other : j ≢ l.i = omega arith in rw get_or-set_other (l.invariant j h))
    (let within : l.i < length l.room = omega arith in rw get_or-set_same refl)

pub returns : goal.returns
returns c =
    let l = c.loop-i in
    same_number_lists l.room c.args.bytes.now (omega arith) (λ j h. l.invariant j (omega arith))
