-- `items` meets its contract: the parts that `split` gives are worked one by one.
use Rattle.std.proofs.Common.{◌≡◌, length, take, refl, sym, ◌∙◌, arith, rules, tests, length-append}
use Rattle.std.proofs.lemmas.Iterator.Consumers.{YieldsList-at, YieldsList-turn, YieldsList-end}
use Rattle.std.proofs.lemmas.Iterator.Splits.{YieldsList-from_slice_split}
use lib.Dec.{eqb}
use lib.Seq.{take_all}
use Rattle.mask.specs.Bits.{bits}
use Rattle.masktext.specs.Text.{outcome, items, parts}
use Rattle.masktext.proofs.Laws.{passed, parts_split, items_more, items_bad}
use Rattle.masktext.proofs.items.Goals as goal

pub loop-part-init : goal.loop-part-init
unfolding items
loop-part-init c = refl

pub loop-part-preserved : goal.loop-part-preserved
unfolding outcome
loop-part-preserved c =
    let at = YieldsList-turn (YieldsList-at c.into_iter-part-iterator.ensures.into_iter_gives
    (YieldsList-from_slice_split _ (λ b. eqb b 44) c.args.s.now c.split-part-items.ensures.rest c.split-part-items.ensures.done
    c.split-part-items.ensures.closure (λ x b q k. search (rules, tests))))
    c.loop-part.yielded _ c.loop-part.yielded_by c.next.result _ c.in-Some.part c.in-Some.is c.next.ensures.steps in
    let here = rw (← parts_split c.args.s.now) at at in
    rw length-append (items_more (bits c.args.old) (bits c.loop-part.m) (parts c.args.s.now) (length c.loop-part.yielded) c.in-Some.part.now here.0 here.1 c.loop-part.invariant ∙ sym c.in_ok-m.ensures)

pub returns : goal.returns
unfolding outcome
returns c =
    let end = YieldsList-end (YieldsList-at c.into_iter-part-iterator.ensures.into_iter_gives
    (YieldsList-from_slice_split _ (λ b. eqb b 44) c.args.s.now c.split-part-items.ensures.rest c.split-part-items.ensures.done
    c.split-part-items.ensures.closure (λ x b q k. search (rules, tests))))
    c.loop-part.yielded _ c.loop-part.yielded_by c.next.result _ c.in-None.is c.next.ensures.steps in
    let all = rw (← parts_split c.args.s.now) at end.1 in
    let whole : take (length c.loop-part.yielded) (parts c.args.s.now) ≡ parts c.args.s.now = take_all _ _ (omega arith) in
    sym (rw whole at c.loop-part.invariant)

pub returns-in_err-m : goal.returns-in_err-m
unfolding outcome
returns-in_err-m c =
    let at = YieldsList-turn (YieldsList-at c.into_iter-part-iterator.ensures.into_iter_gives
    (YieldsList-from_slice_split _ (λ b. eqb b 44) c.args.s.now c.split-part-items.ensures.rest c.split-part-items.ensures.done
    c.split-part-items.ensures.closure (λ x b q k. search (rules, tests))))
    c.loop-part.yielded _ c.loop-part.yielded_by c.next.result _ c.in-Some.part c.in-Some.is c.next.ensures.steps in
    let here = rw (← parts_split c.args.s.now) at at in
    passed _ _ c.from_residual.ensures.1
    ∙ sym (items_bad (bits c.args.old) (bits c.loop-part.m) (parts c.args.s.now) (length c.loop-part.yielded) c.in-Some.part.now here.0 here.1 c.loop-part.invariant (sym c.in_err-m.ensures))
