-- `remaining` meets its contract: each adapter adds what is due of its queues, at most two of each.
use Prim.Native.Nat.{ℕ, ◌+◌, ◌*◌}
use native.Mathlib.Omega.{arith}
use mathlib.Core.Path.{◌≡◌, sym, ap, ap₂, subst, ◌∙◌}
use Rattle.rules.specs.State.{queues}
use Rattle.rules.specs.Queues.{due_at, sum_from, Remaining}
use Rattle.rules.proofs.Sums.{sum_from_none, sum_from_le}
use Rattle.rules.proofs.Moves.{due_two, remaining_none}
use Rattle.rules.proofs.Sweeps.{all_due}
use Rattle.layout.specs.Layout.{state_in}
use Rattle.due.proofs.Laws.{row_more}
use Rattle.due.proofs.remaining.Goals.{After-remaining_row-sum}
use Rattle.due.proofs.remaining.Goals as goal

-- the sum with what is due of the adapter that the loop has come to
next : (c : After-remaining_row-sum) →
    let a = c.args in
    let l = c.loop-adapter in
    l.sum + c.remaining_row-sum.result ≡ sum_from ((l.adapter + 1) * 256) 0 (due_at (state_in a.words.now a.drivers.now))
next c =
    let a = c.args in
    let l = c.loop-adapter in
    ap₂ ◌+◌ l.invariant c.remaining_row-sum.ensures ∙ row_more l.adapter (due_at (state_in a.words.now a.drivers.now))

pub loop-adapter-init : goal.loop-adapter-init
loop-adapter-init c = sym (sum_from_none 0 (due_at (state_in c.args.words.now c.args.drivers.now)))

pub overflow_add-sum : goal.overflow_add-sum
overflow_add-sum c =
    let s = state_in c.args.words.now c.args.drivers.now in
    omega (arith, next (goal.at.overflow_add-sum c).After-remaining_row-sum, sum_from_le ((c.loop-adapter.adapter + 1) * 256) 0 2 (due_at s) (due_two s))

pub loop-adapter-preserved : goal.loop-adapter-preserved
loop-adapter-preserved c = next (goal.at.loop-adapter-preserved c).After-remaining_row-sum

pub returns-2 : goal.returns-2
returns-2 c =
    let s = state_in c.args.words.now c.args.drivers.now in
    let last : (c.loop-adapter.adapter + 1) * 256 ≡ queues = omega arith in
    let all = next (goal.at.returns-2 c).After-remaining_row-sum ∙ ap (λ (i : ℕ). sum_from i 0 (due_at s)) last ∙ all_due s in
    subst (Remaining s) (sym all) (remaining_none s)
