-- What drops an adapter from a guest's masks, read from the driver bytes.
-- The rules: RULES.md, "Guest masks".
-- Assumes nothing.
use Rattle.std.specs.Prelude.{ℕ, ◌+◌, ◌*◌, not, ◌&&◌, List, get_or, eqb}
use Rattle.mask.specs.Bits.{Bits, some_below}
use Rattle.rules.specs.Queues.{passed}
use Rattle.layout.specs.Layout.{driver_of}

-- the queue of adapter a and domain d is wanted and not passed through
unfoldable pub missing : List ℕ → Bits → ℕ → Bits
missing qs domains a d = domains d && not (passed (driver_of (get_or qs (a * 256 + d) 0)))

-- some queue of adapter a and these domains is not passed through
unfoldable pub held_back : List ℕ → Bits → Bits
held_back qs domains a = some_below 256 (missing qs domains a)

-- adapter a alone, where it is held back
abbrev pub held_at : ℕ → List ℕ → Bits → Bits
held_at a qs domains j = eqb j a && held_back qs domains j
