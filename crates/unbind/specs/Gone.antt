-- The queues that a configuration takes away, for all and for one adapter.
-- The rules: RULES.md, "Commands".
-- Assumes nothing.
use Rattle.std.specs.Prelude.{ℕ, zero, suc, ◌+◌, ◌*◌, not, ◌&&◌, List}
use Rattle.mask.specs.declared.Mask.{Mask}
use Rattle.mask.specs.Bits.{Bits, bits}
use Rattle.rules.specs.State.{apqi}
use Rattle.layout.specs.Layout.{unbind_one}
use Rattle.product.specs.declared.Product.{Product}
use Rattle.product.specs.Meet.{queues_of}

-- the queues that were in one product and are not in another
abbrev pub gone : Product → Product → Bits
gone was is q = queues_of was q && not (queues_of is q)

-- the queues whose domain is in a mask
abbrev pub with_domain : Mask → Bits
with_domain m q = bits m (apqi q)

-- the driver bytes with those of the first n queues of adapter a that are away cleared
unfoldable pub unbind_row : List ℕ → Bits → ℕ → ℕ → List ℕ
unbind_row qs away a zero = qs
unbind_row qs away a (suc n) = unbind_one (unbind_row qs away a n) away (a * 256 + n)
