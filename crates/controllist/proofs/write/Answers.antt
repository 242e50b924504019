-- `write` meets its contract. The invariant: the domains before `domain` are done, and their lines stand in the first `at` bytes.
use Rattle.std.proofs.Common.{sym, ◌∙◌, arith}
use Rattle.controllist.proofs.Laws.{sofar_start, sofar_skip, sofar_line, sofar_end}
use Rattle.controllist.proofs.write.Goals as goal
use Rattle.controllist.proofs.write.Goals.{then-has, else-has}

pub loop-domain-init : goal.loop-domain-init
loop-domain-init c = sofar_start _ _ (omega arith)

pub loop-domain-preserved : goal.loop-domain-preserved
loop-domain-preserved c =
    let l = c.loop-domain in
    elim c.if-has.branch [
      | then-has w ↦
          rw (w.text-is, w.at-is)
          (sofar_line l.invariant (omega arith) (sym c.has.ensures ∙ w.if-has.true) w.put_line.ensures)
      | else-has w ↦
          rw (w.text-is, w.at-is) (sofar_skip l.invariant (omega arith) (sym c.has.ensures ∙ w.if-has.false))
    ]

pub returns-after-has : goal.returns-after-has
returns-after-has c =
    let l = c.loop-domain in
    elim c.if-has.branch [
      | then-has w ↦
          rw (w.text-is, w.at-is)
          (sofar_end (sofar_line l.invariant (omega arith) (sym c.has.ensures ∙ w.if-has.true) w.put_line.ensures) (omega arith))
      | else-has w ↦
          rw (w.text-is, w.at-is)
          (sofar_end (sofar_skip l.invariant (omega arith) (sym c.has.ensures ∙ w.if-has.false)) (omega arith))
    ]
