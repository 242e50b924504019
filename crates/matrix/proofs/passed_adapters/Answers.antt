-- `passed_adapters` meets its contract: all adapters are passed, and there are no more.
use Prim.Native.Nat.{ℕ, ◌+◌}
use native.Mathlib.Omega.{arith}
use mathlib.Core.Path.{◌≡◌, ap, ◌∙◌, fun_ext}
use mathlib.Core.Bool.{Bool, not, ◌&&◌}
use lib.Dec.{eqb, ltb}
use Rattle.mask.specs.Bits.{Bits, bits}
use Rattle.mask.proofs.Laws.{past_end, mask_words_lem}
use Rattle.matrix.specs.Row.{held_back}
use Rattle.matrix.proofs.Laws.{next_look, all_looked}
use Rattle.matrix.proofs.passed_adapters.Goals as goal

pub returns-2 : goal.returns-2
returns-2 c =
    let a = c.args in
    let l = c.loop-adapter in
    let held = held_back a.drivers.now (bits a.domains) in
    let last : l.adapter + 1 ≡ 256 = omega arith in
    fun_ext
    (λ j. ap (λ (f : Bits). f j) c.kept_adapter-m.ensures
    ∙ ap (λ (t : Bool). t && not (eqb j l.adapter && held j)) (l.invariant j) ∙ next_look j l.adapter (bits a.adapters j) (held j)
    ∙ ap (λ (n : ℕ). bits a.adapters j && not (ltb j n && held j)) last
    ∙ all_looked j (bits a.adapters j) (held j) (λ h. past_end j (omega arith) (mask_words_lem a.adapters c.well_formed.1.0) h))
