-- `taken` meets its contract.
use Rattle.std.proofs.Common.{rules, refl, sym, not, eqb, ◌&&◌, ◌≡◌, true, false, ◌∙◌}
use Rattle.std.proofs.lemmas.Iterator.{cases_from_any, YieldsList-from_range}
use Rattle.mask.specs.Bits.{Bits, some_below, both}
use Rattle.rules.specs.State.{queues}
use Rattle.rules.specs.Commands.{product}
use Rattle.rules.proofs.Products.{taken_by}
use Rattle.layout.specs.Layout.{device_in}
use Rattle.product.specs.Meet.{queues_of}
use Rattle.rules.proofs.First.{some_of_range}
use Rattle.lookup.proofs.taken.Goals as goal

pub returns : goal.returns
returns c =
    let a = c.args in
    let p : Bits = λ j. not (eqb j a.slot) && some_below queues (both (queues_of a.wanted) (product (device_in a.words.now j))) in
    some_of_range 8 p
    (cases_from_any _ _ _ (λ k. p k ≡ true) (λ k. p k ≡ false) c.any.ensures.ran
    (YieldsList-from_range 0 8 8 refl refl)
    (λ x q h. search rules) (λ x q h. (search rules, search rules)))
    ∙ sym (taken_by a.slot (device_in a.words.now) (queues_of a.wanted))
