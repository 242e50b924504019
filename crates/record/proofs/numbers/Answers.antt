-- `numbers` meets its contract.
use Prim.Native.Nat.{ℕ, ◌+◌}
use native.Mathlib.Omega.{arith}
use mathlib.Core.Path.{◌≡◌, refl, sym, ap, ap₂, ◌∙◌}
use Rattle.mask.specs.Bits.{bit_at, no_bits}
use Rattle.rules.specs.declared.Kind.{Kind}
use Rattle.rules.specs.declared.Kind.TheVariants.{Adapter, Domain, Control}
use Rattle.rules.specs.State.{no_device}
use Rattle.rules.specs.Commands.{numbers_of}
use Rattle.layout.specs.Layout.{mask_at}
use Rattle.layout.proofs.Laws.{slot_found, device_there_lem, device_past, numbers_there, kind_small}
use Rattle.record.proofs.numbers.Goals as goal

pub returns-then-slot-lt-SLOTS : goal.returns-then-slot-lt-SLOTS
unfolding mask_at
returns-then-slot-lt-SLOTS c =
    let a = c.args in
    ap (bit_at 64) c.mask_at.ensures ∙ ap₂ (λ (p n : ℕ). mask_at a.words.now (p + n)) (slot_found (omega arith) c.slot_at.ensures) c.kind_at.ensures
    ∙ sym (numbers_there a.words.now a.slot a.kind) ∙ ap (numbers_of a.kind) (sym (device_there_lem a.words.now a.slot (omega arith)))

pub returns-else-slot-lt-SLOTS : goal.returns-else-slot-lt-SLOTS
unfolding numbers_of no_device
returns-else-slot-lt-SLOTS c =
    let a = c.args in
    c.empty.ensures ∙ none a.kind ∙ ap (numbers_of a.kind) (sym (device_past a.words.now a.slot (omega arith)))
  where
    none : (k : Kind) → no_bits ≡ numbers_of k no_device
    none Adapter = refl
    none Domain = refl
    none Control = refl

pub overflow_add-slot_at : goal.overflow_add-slot_at
overflow_add-slot_at c = omega (arith, kind_small c.args.kind)

pub mask_at-requires : goal.mask_at-requires
mask_at-requires c = omega (arith, kind_small c.args.kind)
