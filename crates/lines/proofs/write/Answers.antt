-- `write` meets its contract. The invariant: the queues before `n` are done, and their lines stand in the first `at` bytes.
use native.Mathlib.Omega.{arith}
use mathlib.Core.Path.{◌≡◌, sym, ap, ◌∙◌}
use Rattle.rules.specs.State.{apqn}
use Rattle.product.specs.Meet.{queues_of}
use Rattle.lines.specs.Lines.{with_line}
use Rattle.lines.proofs.Laws.{sofar_start, sofar_skip, sofar_line, sofar_full, sofar_end}
use Rattle.lines.proofs.write.Goals as goal
use Rattle.lines.proofs.write.Goals.{then-has+else-buf-at-lt-LINE, else-has}

pub loop-n-init : goal.loop-n-init
loop-n-init c = sofar_start _ _ _

pub shape_of-buf-then-buf-at-lt-LINE : goal.shape_of-buf-then-buf-at-lt-LINE
shape_of-buf-then-buf-at-lt-LINE c = c.loop-n.invariant.long

pub returns-then-buf-at-lt-LINE : goal.returns-then-buf-at-lt-LINE
returns-then-buf-at-lt-LINE c =
    let q : apqn c.new-queue.result.adapter c.new-queue.result.domain ≡ c.loop-n.n = omega arith in
    let there = ap (queues_of c.args.product) (sym q) ∙ sym c.has.ensures ∙ c.if-has.true in
    sofar_full c.loop-n.invariant (omega arith) there (omega arith)

pub loop-n-preserved : goal.loop-n-preserved
loop-n-preserved c =
    let s = c.loop-n.invariant in
    let q : apqn c.new-queue.result.adapter c.new-queue.result.domain ≡ c.loop-n.n = omega arith in
    let there = ap (queues_of c.args.product) (sym q) ∙ sym c.has.ensures in
    elim c.if-has.branch [
      | then-has+else-buf-at-lt-LINE w ↦ rw (w.buf-is, w.at-is, w.next-is) (sofar_line s (omega arith) (there ∙ w.if-has.true) (omega arith) (w.put_line.ensures ∙ ap (with_line _ _) q))
      | else-has w ↦ rw (w.buf-is, w.at-is, w.next-is) (sofar_skip s (omega arith) (there ∙ w.if-has.false))
    ]

pub shape_of-buf : goal.shape_of-buf
shape_of-buf c = c.loop-n.invariant.long

pub returns : goal.returns
returns c = sofar_end c.loop-n.invariant (omega arith)
