-- `put_types` meets its contract. The loop's invariant: the types of the first a adapters are put.
use Rattle.std.proofs.Common.{◌≡◌, cond, get_or}
use Rattle.mask.specs.Bits.{bits}
use Rattle.layout.specs.Layout.{put_types}
use Rattle.store.proofs.put_types.Given as goal

abbrev pub invariant-loop-a : goal.invariant-loop-a
invariant-loop-a l = l.words ≡ put_types l.initial.words (λ i. cond (bits l.fn.adapters i) (get_or l.fn.types i 0) 0) l.a
