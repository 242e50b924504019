-- `run` meets its contract: a fresh record, and then the requests.
use native.Mathlib.Omega.{arith}
use Rattle.run.proofs.Laws.{runs}
use Rattle.run.proofs.run.Goals as goal

pub returns : goal.returns
returns c =
    let s = c in
    runs (rw (c.from.ensures, c.from-2.ensures) at c.fresh.ensures) c.carry_out.ensures (omega (arith, s)) (omega (arith, s))
