-- `find` meets its contract.
use Rattle.std.proofs.Common.{rules, ◌≡◌, true, false, ◌&&◌}
use Rattle.std.proofs.lemmas.Iterator.{first_from_Range}
use Rattle.rules.specs.Commands.{slot_of, same_id}
use Rattle.layout.specs.Layout.{device_in}
use Rattle.mask.specs.Bits.{Bits}
use Rattle.rules.proofs.First.{first_of_slots}
use Rattle.lookup.proofs.find.Goals as goal

pub returns : goal.returns
unfolding slot_of
returns c =
    let p : Bits = λ k. (device_in c.args.words.now k).present && same_id c.args.id (device_in c.args.words.now k).id in
    first_of_slots p
    (first_from_Range _ _ _ _ (λ k. p k ≡ true) (λ k. p k ≡ false) c.find.ensures.ran
    (λ x q h. search rules) (λ x q h. (search rules, search rules)))
