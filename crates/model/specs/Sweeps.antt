-- A sweep in a list of demand 3.
-- The rules: RULES.md, "Reference model and demand 3".
-- Assumes nothing.
use Rattle.std.specs.Prelude.{ℕ, List, map}
use Rattle.rules.specs.State.{State, apid, apqi}
use Rattle.rules.specs.Sweeps.{swept}
use Rattle.model.specs.Steps.{Step, move}

-- the moves that a sweep makes, as steps
unfoldable pub sweep_steps : ℕ → State → List Step
sweep_steps b s = map (λ q. move (apid q) (apqi q)) (swept b s)
