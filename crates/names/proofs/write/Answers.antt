-- `write` meets its contract.
use Rattle.std.proofs.Common.{◌≢◌, ◌<◌, length, take, arith, ◌∙◌, sym, get_or-set_other, get_or-set_same, below_more}
use lib.ListN.{length-set}
use Rattle.std.proofs.lemmas.Grind.{same_number_lists}
use Rattle.errno.specs.Errno.{padded}
use Rattle.names.proofs.Laws.{padded_long, padded_at}
use Rattle.names.proofs.write.Goals as goal

pub loop-i-preserved : goal.loop-i-preserved
loop-i-preserved c =
    let l = c.loop-i in
    let within : l.i < length l.out = omega arith in (
      length-set l.out l.i c.byte_at.result ∙ l.invariant.0,
      below_more _ _ (λ j h. let other : j ≢ l.i = omega arith in rw get_or-set_other (l.invariant.1 j h)) (rw get_or-set_same c.byte_at.ensures),
    )

pub returns : goal.returns
returns c =
    let l = c.loop-i in
    let s = c.args.name.now in
    (c.min.ensures, same_number_lists l.out (padded (take 14 s)) (l.invariant.0 ∙ sym (padded_long s)) (λ j h. l.invariant.1 j (omega arith) ∙ sym (padded_at s j (omega arith))))
