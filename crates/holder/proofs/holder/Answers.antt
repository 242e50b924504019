-- `holder` meets its contract.
use Rattle.std.proofs.Common.{rules, ◌≡◌, true, false}
use Rattle.std.proofs.lemmas.Iterator.{first_from_Range}
use Rattle.mask.specs.Bits.{Bits}
use Rattle.rules.specs.State.{apqn}
use Rattle.rules.specs.Commands.{product}
use Rattle.rules.proofs.First.{first_of_slots}
use Rattle.layout.specs.Layout.{device_in}
use Rattle.holder.specs.Holder.{holder_of}
use Rattle.holder.proofs.holder.Goals as goal

pub returns : goal.returns
unfolding holder_of
returns c =
    let a = c.args in
    let p : Bits = λ k. product (device_in a.words.now k) (apqn a.queue.adapter a.queue.domain) in
    first_of_slots p
    (first_from_Range _ _ _ _ (λ k. p k ≡ true) (λ k. p k ≡ false) c.find.ensures.ran
    (λ x q h. search rules) (λ x q h. (search rules, search rules)))
