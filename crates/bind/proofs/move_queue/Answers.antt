-- `move_queue` meets its contract: a return for each answer.
use native.Mathlib.Omega.{arith}
use mathlib.Core.Path.{◌≡◌, refl, ap₂, ◌∙◌}
use mathlib.Core.List.{List}
use Prim.Native.Nat.{ℕ}
use Rattle.rules.specs.declared.Moved.{Moved}
use Rattle.rules.specs.Queues.{moved}
use Rattle.rules.specs.State.{apqn}
use Rattle.bind.specs.Moves.{bytes_after, Moving}
use Rattle.bind.proofs.Laws.{answer_read, moving}
use Rattle.bind.proofs.move_queue.Goals as goal
use Rattle.bind.proofs.move_queue.Goals.{After-moved_by-m}

-- a move that leaves the bytes of its answer
done : (c : After-moved_by-m) (rs : List ℕ) (m : Moved) → c.moved_by-m.result ≡ m →
    let a = c.args in
    rs ≡ bytes_after m (apqn a.queue.adapter a.queue.domain) a.drivers.now
    → Moving (apqn a.queue.adapter a.queue.domain) a.words.now a.drivers.now rs c.moved_by-m.result
done c rs m e b =
    let a = c.args in
    let q = apqn a.queue.adapter a.queue.domain in
    moving a.words.now a.drivers.now rs q c.moved_by-m.result
    (omega arith)
    (c.moved_by-m.ensures ∙ ap₂ moved c.driver.ensures c.target.ensures ∙ answer_read a.words.now a.drivers.now q)
    (rw e b)

pub returns-in-Idle : goal.returns-in-Idle
unfolding bytes_after
returns-in-Idle c = done (goal.at.returns-in-Idle c).After-moved_by-m _ _ c.in-Idle.is refl

pub returns-in-Released : goal.returns-in-Released
unfolding bytes_after
returns-in-Released c = done (goal.at.returns-in-Released c).After-moved_by-m _ _ c.in-Released.is c.put_driver.ensures

pub returns-in-BoundHost : goal.returns-in-BoundHost
unfolding bytes_after
returns-in-BoundHost c = done (goal.at.returns-in-BoundHost c).After-moved_by-m _ _ c.in-BoundHost.is c.put_driver-in-BoundHost.ensures

pub returns-in-BoundPassthrough : goal.returns-in-BoundPassthrough
unfolding bytes_after
returns-in-BoundPassthrough c = done (goal.at.returns-in-BoundPassthrough c).After-moved_by-m _ _ c.in-BoundPassthrough.is c.put_driver-in-BoundPassthrough.ensures
