-- `make_move` meets its contract.
use native.Mathlib.Omega.{arith}
use Rattle.request.proofs.Laws.{moved}
use Rattle.request.proofs.make_move.Goals as goal

pub returns : goal.returns
returns c =
    let s = c in
    let a = s.args in
    moved a.queue.adapter.0 a.queue.domain.0 a.words.now a.drivers.now _ _ c.move_queue.result (omega (arith, s)) (omega (arith, s)) c.from.ensures c.move_queue.ensures
