-- `missing` meets its contract.
use mathlib.Core.Path.{◌≡◌, refl, sym, ap, ◌∙◌}
use mathlib.Core.Bool.{true, false, not}
use denote.Enum.Bare.{sameb}
use Rattle.mask.specs.Bits.{bits}
use Rattle.rules.specs.contracts.Driver.{the_type}
use Rattle.rules.specs.declared.Driver.{Driver}
use Rattle.rules.specs.declared.Driver.TheVariants.{Unbound, Host, Passthrough}
use Rattle.rules.specs.Queues.{passed}
use Rattle.matrix.proofs.Laws.{missing_at}
use Rattle.matrix.proofs.missing.Goals as goal

-- a driver is passed through where it is the one that passes through
passed_same : (v : Driver) → not (sameb the_type v Passthrough) ≡ not (passed v)
unfolding passed
passed_same Unbound = refl
passed_same Host = refl
passed_same Passthrough = refl

pub returns-then-has : goal.returns-then-has
returns-then-has c =
    let a = c.args in
    c.ne.ensures ∙ passed_same c.driver.result
    ∙ sym (missing_at a.drivers.now (bits a.domains) a.queue.adapter.0 a.queue.domain.0 true _ (sym c.has.ensures ∙ c.if-has.true) (sym (ap passed c.driver.ensures)))

pub returns-else-has : goal.returns-else-has
returns-else-has c =
    let a = c.args in
    c.if-has.false
    ∙ sym (missing_at a.drivers.now (bits a.domains) a.queue.adapter.0 a.queue.domain.0 false _ (sym c.has.ensures ∙ c.if-has.false) refl)
