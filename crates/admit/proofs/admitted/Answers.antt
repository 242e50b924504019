-- `admitted` meets its contract: what the two tests find, in their order.
use mathlib.Core.Bool.{true, false}
use mathlib.Core.Path.{refl}
use Rattle.product.specs.Meet.{queues_of}
use Rattle.admit.proofs.Laws.{found, by_tests}
use Rattle.admit.proofs.admitted.Goals as goal

-- the tests are searched for, so that another order of them fails as a fact
pub returns-then-reserved : goal.returns-then-reserved
returns-then-reserved c = λ qs t.
    let a = c.args in
    by_tests (queues_of a.wanted) a.slot a.words.now qs t true _ (search found) refl

pub returns-then-taken : goal.returns-then-taken
returns-then-taken c = λ qs t.
    let a = c.args in
    by_tests (queues_of a.wanted) a.slot a.words.now qs t false true (search found)
    (search found)

pub returns : goal.returns
returns c = λ qs t.
    let a = c.args in
    by_tests (queues_of a.wanted) a.slot a.words.now qs t false false (search found)
    (search found)
