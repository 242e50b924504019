-- `fresh` meets its contract, by the two ways that it can go.
use Rattle.std.proofs.Common.{ap₂, inl, inr, ◌∙◌}
use Rattle.std.proofs.lemmas.Result.{err_from_is_err_and}
use Rattle.layout.specs.Layout.{fresh_words}
use Rattle.layout.specs.Carried.{memory}
use Rattle.setup.proofs.Laws.{refuses, makes}
use Rattle.setup.proofs.fresh.Goals as goal

pub returns-in_err-adapter : goal.returns-in_err-adapter
returns-in_err-adapter c =
    let p = err_from_is_err_and c.from_residual.result c.from_residual.ensures.1 in
    let bad = c.in_err-adapter.ensures in
    rw (p.1, p.2, bad.0) (refuses c.args.adapter c.args.domain _ (inl bad.1))

pub returns-in_err-domain : goal.returns-in_err-domain
returns-in_err-domain c =
    let p = err_from_is_err_and c.from_residual-in_err-domain.result c.from_residual-in_err-domain.ensures.1 in
    let bad = c.in_err-domain.ensures in
    rw (p.1, p.2, bad.0) (refuses c.args.adapter c.args.domain _ (inr bad.1))

pub returns : goal.returns
returns c =
    let a = c.in_ok-adapter.ensures in
    let d = c.in_ok-domain.ensures in
    makes c.args.adapter c.args.domain _ _ a.1 d.1 (ap₂ memory (c.put_fresh.ensures ∙ ap₂ fresh_words a.0 d.0) c.put_unbound.ensures)
