-- `four` meets its contract: the first word that is bad is refused.
use Rattle.std.proofs.lemmas.Result.{err_from_is_err_and}
use Rattle.errno.specs.Outcome.{outcome}
use Rattle.mask.proofs.Laws.{mask_words_lem}
use Rattle.masktext.specs.Text as Text
use Rattle.configtext.proofs.Laws.{first_bad, second_bad, third_bad, fourth_bad, all_good}
use Rattle.configtext.proofs.four.Goals as goal

pub returns-in_err-hex_mask : goal.returns-in_err-hex_mask
unfolding outcome Text.outcome
returns-in_err-hex_mask c =
    let a = c.args in
    let p = err_from_is_err_and c.from_residual.result c.from_residual.ensures.1 in rw (p.1, p.2)
    (first_bad a.adapters.now a.domains.now a.controls.now a.types.now c.in_err-hex_mask.ensures)

pub returns-in_err-hex_mask-2 : goal.returns-in_err-hex_mask-2
unfolding outcome Text.outcome
returns-in_err-hex_mask-2 c =
    let a = c.args in
    let p = err_from_is_err_and c.from_residual-in_err-hex_mask-2.result c.from_residual-in_err-hex_mask-2.ensures.1 in rw (p.1, p.2)
    (second_bad a.adapters.now a.domains.now a.controls.now a.types.now c.in_ok-hex_mask.ensures c.in_err-hex_mask-2.ensures)

pub returns-in_err-hex_mask-3 : goal.returns-in_err-hex_mask-3
unfolding outcome Text.outcome
returns-in_err-hex_mask-3 c =
    let a = c.args in
    let p = err_from_is_err_and c.from_residual-in_err-hex_mask-3.result c.from_residual-in_err-hex_mask-3.ensures.1 in rw (p.1, p.2)
    (third_bad a.adapters.now a.domains.now a.controls.now a.types.now c.in_ok-hex_mask.ensures c.in_ok-hex_mask-2.ensures c.in_err-hex_mask-3.ensures)

pub returns-in_err-types : goal.returns-in_err-types
unfolding outcome Text.outcome
returns-in_err-types c =
    let a = c.args in
    let p = err_from_is_err_and c.from_residual-in_err-types.result c.from_residual-in_err-types.ensures.1 in rw (p.1, p.2)
    (fourth_bad a.adapters.now a.domains.now a.controls.now a.types.now c.in_ok-hex_mask.ensures c.in_ok-hex_mask-2.ensures c.in_ok-hex_mask-3.ensures c.in_err-types.ensures)

pub returns : goal.returns
unfolding outcome Text.outcome
returns c =
    let a = c.args in
    all_good a.adapters.now a.domains.now a.controls.now a.types.now _ _ _ c.in_ok-hex_mask.ensures c.in_ok-hex_mask-2.ensures c.in_ok-hex_mask-3.ensures
    c.in_ok-types.ensures
    (mask_words_lem _ (rw c.in_ok-hex_mask.was at c.hex_mask.type_inv).1.1.1.1.0)
    (mask_words_lem _ (rw c.in_ok-hex_mask-2.was at c.hex_mask-2.type_inv).1.1.1.1.0)
    (mask_words_lem _ (rw c.in_ok-hex_mask-3.was at c.hex_mask-3.type_inv).1.1.1.1.0)
