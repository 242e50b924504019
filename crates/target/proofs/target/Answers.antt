-- `target` meets its contract: by whether the queue is configured and reserved, and by the hardware type.
use native.Mathlib.Omega.{arith}
use mathlib.Core.Path.{refl, sym, ap, ◌∙◌}
use mathlib.Core.Bool.{Bool, true, false, cond}
use borrow.Author.Tests.{le-leb, lt-leb}
use Rattle.rules.specs.declared.Driver.TheVariants.{Unbound, Passthrough}
use Rattle.rules.specs.State.{apqn}
use Rattle.rules.proofs.Targets.{target_by}
use Rattle.layout.specs.Lent.{host, config}
use Rattle.product.proofs.Laws.{has_test}
use Rattle.target.proofs.target.Goals as goal

pub returns-then-not-has : goal.returns-then-not-has
returns-then-not-has c =
    let a = c.args in
    let conf = has_test (apqn a.queue.adapter a.queue.domain) c.has.ensures c.configured.ensures.members in
    target_by (host a.words) (config a.words) a.queue.adapter.0 a.queue.domain.0 (omega arith) false _ (sym c.if-not-has.true ∙ conf) refl

pub returns-then-has : goal.returns-then-has
returns-then-has c =
    let a = c.args in
    let conf = has_test (apqn a.queue.adapter a.queue.domain) c.has.ensures c.configured.ensures.members in
    let kept = has_test (apqn a.queue.adapter a.queue.domain) c.has-else-not-has.ensures c.reserved.ensures.members in
    target_by (host a.words) (config a.words) a.queue.adapter.0 a.queue.domain.0 (omega arith) true true (sym c.if-not-has.false ∙ conf) (sym c.if-has.true ∙ kept)

pub returns-then-hardware_type-lt-LOWEST_PASSED_TYPE : goal.returns-then-hardware_type-lt-LOWEST_PASSED_TYPE
returns-then-hardware_type-lt-LOWEST_PASSED_TYPE c =
    let a = c.args in
    let conf = has_test (apqn a.queue.adapter a.queue.domain) c.has.ensures c.configured.ensures.members in
    let kept = has_test (apqn a.queue.adapter a.queue.domain) c.has-else-not-has.ensures c.reserved.ensures.members in
    ap (λ (b : Bool). cond b Passthrough Unbound) (sym (lt-leb 10 ((config a.words).types a.queue.adapter.0) (omega (arith, c.hardware_type.ensures))))
    ∙ target_by (host a.words) (config a.words) a.queue.adapter.0 a.queue.domain.0 (omega arith) true false (sym c.if-not-has.false ∙ conf) (sym c.if-has.false ∙ kept)

pub returns-else-hardware_type-lt-LOWEST_PASSED_TYPE : goal.returns-else-hardware_type-lt-LOWEST_PASSED_TYPE
returns-else-hardware_type-lt-LOWEST_PASSED_TYPE c =
    let a = c.args in
    let conf = has_test (apqn a.queue.adapter a.queue.domain) c.has.ensures c.configured.ensures.members in
    let kept = has_test (apqn a.queue.adapter a.queue.domain) c.has-else-not-has.ensures c.reserved.ensures.members in
    ap (λ (b : Bool). cond b Passthrough Unbound) (sym (le-leb 10 ((config a.words).types a.queue.adapter.0) (omega (arith, c.hardware_type.ensures))))
    ∙ target_by (host a.words) (config a.words) a.queue.adapter.0 a.queue.domain.0 (omega arith) true false (sym c.if-not-has.false ∙ conf) (sym c.if-has.false ∙ kept)
