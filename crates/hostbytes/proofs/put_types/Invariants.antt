-- The loop's invariant: each byte that it passed is that of its adapter's type.
use Rattle.std.proofs.Common.{◌≡◌, ℕ, ◌<◌, get_or}
use Rattle.layout.specs.Layout.{config_in}
use Rattle.hostbytes.specs.Configurations.{type_bytes}
use Rattle.hostbytes.proofs.put_types.Given as goal

abbrev pub invariant-loop-adapter : goal.invariant-loop-adapter
invariant-loop-adapter l = (j : ℕ) → j < l.adapter → get_or l.out j 0 ≡ get_or (type_bytes (config_in l.words)) j 0
