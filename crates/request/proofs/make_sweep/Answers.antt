-- `make_sweep` meets its contract.
use Prim.Native.Nat.{ℕ}
use mathlib.Core.Bool.{Bool, true, false, cond}
use mathlib.Core.Path.{◌≡◌, refl, ◌∙◌}
use mir.Val.{bool_byte}
use Rattle.request.proofs.Laws.{swept}
use Rattle.request.proofs.make_sweep.Goals as goal

as_byte : (b : Bool) → bool_byte b ≡ cond {A = ℕ} b 1 0
as_byte true = refl
as_byte false = refl

pub returns : goal.returns
returns c =
    let a = c.args in
    let w = c.sweep-swept in
    swept a.budget a.words.now a.drivers.now _ _ w.result (c.from.ensures ∙ as_byte w.result.more) w.ensures
