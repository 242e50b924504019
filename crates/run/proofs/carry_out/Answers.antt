-- `carry_out` meets its contract. The invariant: what was done and what is left make up what the whole list comes to.
use native.Mathlib.Omega.{arith}
use Rattle.std.proofs.lemmas.List.{set-get_or}
use Rattle.run.proofs.Laws.{Left, part_long, step_left, starts, goes_on_lem, ends_early, ends_full}
use Rattle.run.proofs.carry_out.Goals.{In-Some}
use Rattle.run.proofs.carry_out.Goals as goal

-- a whole step is left
found : (c : In-Some) → Left c.args.steps.now c.loop-n.at c.in-Some.size
found c = step_left _ _ _ c.in-Some.ensures (omega arith)

pub loop-n-init : goal.loop-n-init
loop-n-init c = starts _ _ _

pub returns-in-None : goal.returns-in-None
returns-in-None c = rw (set-get_or c.loop-n.answers c.loop-n.n 0) (ends_early c.loop-n.invariant c.in-None.ensures)

pub overflow_add-at : goal.overflow_add-at
overflow_add-at c = omega (arith, found (goal.at.overflow_add-at c).In-Some)

pub slice_bounds-step-end : goal.slice_bounds-step-end
slice_bounds-step-end c = omega (arith, found (goal.at.slice_bounds-step-end c).In-Some)

pub step-requires : goal.step-requires
step-requires c = omega (arith, found (goal.at.step-requires c).In-Some, part_long (found (goal.at.step-requires c).In-Some))

pub loop-n-preserved : goal.loop-n-preserved
loop-n-preserved c =
    let l = c.loop-n in
    goes_on_lem l.invariant _ c.step.result _ (found (goal.at.loop-n-preserved c).In-Some) (omega arith) c.step.ensures

pub returns : goal.returns
returns c = ends_full c.loop-n.invariant (omega arith) (omega arith)
