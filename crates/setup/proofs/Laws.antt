-- A refused and a granted call of `fresh`.
-- Assumes nothing.
use Rattle.std.proofs.Common.{Ok, Err}
use Prim.Native.Nat.{ℕ, ◌<◌, ◌≤◌}
use mathlib.Core.Bool.{Bool, cond, ◌&&◌, and-false}
use mathlib.Core.Logic.{◌⊎◌, inl, inr}
use mathlib.Core.Path.{◌≡◌, ap, ap₂, ◌∙◌}
use lib.Dec.{leb}
use borrow.Author.Tests.{le-leb, lt-leb}
use Rattle.errno.specs.Outcome.{granted, refused}
use Rattle.errno.specs.declared.Errno.TheVariants.{Einval}
use Rattle.rules.specs.State.{State, fresh}
use Rattle.layout.specs.Carried.{Memory, read, Carried}
use Rattle.layout.proofs.Laws.{read_fresh, carried_refused, carried_granted}
use Rattle.setup.specs.Fresh.{start, fresh_memory}

module _ (a d : ℕ) where
  made : State
  made = fresh (record { adapter = a; domain = d })

  above : (s : State) → (255 < a) ⊎ (255 < d) → start a d s ≡ refused Einval
  unfolding start made
  above s (inl h) = ap (λ (b : Bool). cond (b && leb d 255) (granted made) (refused Einval)) (lt-leb a 255 h)
  above s (inr h) =
      ap (λ (b : Bool). cond (leb a 255 && b) (granted made) (refused Einval)) (lt-leb d 255 h)
      ∙ ap (λ (b : Bool). cond b (granted made) (refused Einval)) (and-false (leb a 255))

  pub refuses : (m : Memory) → (255 < a) ⊎ (255 < d) → Carried (start a d) (λ n. fresh_memory a d) m m (Err Einval)
  refuses m h = carried_refused (start a d) (λ n. fresh_memory a d) m Einval (above (read m) h)

  pub makes : (m n : Memory) → a ≤ 255 → d ≤ 255 → n ≡ fresh_memory a d → Carried (start a d) (λ n. fresh_memory a d) m n (Ok tt)
  unfolding start made
  makes m n h k e =
      carried_granted (start a d) (λ n. fresh_memory a d) m n made e
      (ap₂ (λ (x y : Bool). cond (x && y) (granted made) (refused Einval)) (le-leb a 255 h) (le-leb d 255 k)) (read_fresh a d h k)
