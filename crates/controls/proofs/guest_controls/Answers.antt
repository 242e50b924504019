-- `guest_controls` meets its contract.
use Rattle.mask.specs.Bits.{both}
use Rattle.rules.specs.Queues.{guest_controls}
use Rattle.layout.specs.Layout.{state_in}
use Rattle.controls.proofs.Laws.{made, its_controls}
use Rattle.controls.proofs.guest_controls.Goals as goal

pub returns : goal.returns
unfolding guest_controls state_in
returns c = its_controls c.args.words.now c.args.slot c.and.result (λ qs. search (made both))
