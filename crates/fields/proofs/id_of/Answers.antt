-- `id_of` meets its contract.
use Prim.Native.Nat.{ℕ}
use mathlib.Core.Path.{ap₂}
use Rattle.fields.specs.Fields.{id_of}
use Rattle.fields.proofs.id_of.Goals as goal

pub returns : goal.returns
unfolding id_of
returns c = ap₂ (λ (h l : ℕ). record { hi = h; lo = l }) c.word_at.ensures c.word_at-2.ensures
