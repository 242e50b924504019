-- `free` meets its contract.
use Rattle.std.proofs.Common.{rules, ◌≡◌, not, true, false}
use Rattle.std.proofs.lemmas.Iterator.{first_from_Range}
use Rattle.mask.specs.Bits.{Bits}
use Rattle.rules.specs.Commands.{free_slot}
use Rattle.layout.specs.Layout.{device_in}
use Rattle.rules.proofs.First.{first_of_slots}
use Rattle.lookup.proofs.free.Goals as goal

pub returns : goal.returns
unfolding free_slot
returns c =
    let p : Bits = λ k. not (device_in c.args.words.now k).present in
    first_of_slots p
    (first_from_Range _ _ _ _ (λ k. p k ≡ true) (λ k. p k ≡ false) c.find.ensures.ran
    (λ x q h. search rules) (λ x q h. (search rules, search rules)))
