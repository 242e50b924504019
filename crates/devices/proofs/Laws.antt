-- The check that the commands of a device's life have in common.
-- Assumes nothing.
use Rattle.std.proofs.Common.{Ok, Err, Some, None}
use Prim.Native.Nat.{ℕ, ◌<◌}
use mathlib.Core.Bool.{Bool, beq, true, false, cond}
use mathlib.Core.List.{List}
use mathlib.Core.Path.{◌≡◌, refl, sym, ap, ◌∙◌}
use lib.Dec.{ltb}
use borrow.Author.Tests.{ltb-true}
use Rattle.errno.specs.Outcome.{Outcome, granted, refused}
use Rattle.errno.specs.declared.Errno.{Errno}
use Rattle.errno.specs.declared.Errno.TheVariants.{Enoent}
use Rattle.rules.specs.declared.Id.{Id}
use Rattle.rules.specs.State.{State, Devices, slots}
use Rattle.rules.specs.Commands.{found, slot_of, on_device}
use Rattle.rules.proofs.First.{found_some, found_nothing}
use Rattle.layout.specs.Layout.{device_in, state_in}
use Rattle.layout.proofs.Laws.{cond_below, cond_past}
use Rattle.devices.specs.Effects.{as_wanted, denial, slot_if}

-- a flag is as wanted by a test for equality
as_test : {A : Type 0} (w o : Bool) (a b : A) → as_wanted w o a b ≡ cond (beq o w) a b
as_test true true a b = refl
as_test true false a b = refl
as_test false true a b = refl
as_test false false a b = refl

-- the check by what the search for the id found, and by a test of the flag
module _ (i : Id) (w : Bool) (vs : Devices) where
  pub nowhere : None ≡ found (slot_of i vs) → Err Enoent ≡ slot_if i w vs
  unfolding slot_if
  nowhere h = sym (cond_past (slot_of i vs) slots _ (Err Enoent) (found_nothing h))

  pub by_open : {p : ℕ} (t : Bool) → Some p ≡ found (slot_of i vs) → t ≡ beq (vs p).is_open w → cond t (Ok p) (Err (denial w)) ≡ slot_if i w vs
  unfolding slot_if
  by_open {p} t h is =
      let at = found_some h in
      ap (λ (b : Bool). cond b (Ok p) (Err (denial w))) is ∙ sym (as_test w (vs p).is_open (Ok p) (Err (denial w)))
      ∙ ap (λ (k : ℕ). as_wanted w (vs k).is_open (Ok k) (Err (denial w))) at.1
      ∙ sym (cond_below (slot_of i vs) slots _ (Err Enoent) (rw at.1 at at.0))

-- a command that makes the check, and is then granted
module _ (i : Id) (w : Bool) (ws qs : List ℕ) (next : ℕ → State) where
  abbrev rule : Outcome State
  rule = on_device i (state_in ws qs) (λ k. as_wanted w (device_in ws k).is_open (granted (next k)) (refused (denial w)))

  pub check_refused : {x : Errno} → Err x ≡ slot_if i w (device_in ws) → rule ≡ refused x
  unfolding on_device state_in slot_if
  check_refused {x} h = go (ltb p slots) w (device_in ws p).is_open h
    where
      p : ℕ
      p = slot_of i (device_in ws)

      go : (b w o : Bool) → Err x ≡ cond b (as_wanted w o (Ok p) (Err (denial w))) (Err Enoent)
          → cond b (as_wanted w o (granted (next p)) (refused (denial w))) (refused Enoent) ≡ refused x
      go true true true h = cc
      go true true false h = cc
      go true false true h = cc
      go true false false h = cc
      go false w o h = cc

  pub check_passed : {p : ℕ} → Ok p ≡ slot_if i w (device_in ws) → (p < slots) × (p ≡ slot_of i (device_in ws)) × (rule ≡ granted (next p))
  unfolding on_device state_in slot_if
  check_passed {p} h = go (ltb q slots) w (device_in ws q).is_open refl h
    where
      q : ℕ
      q = slot_of i (device_in ws)

      passed : ltb q slots ≡ true → p ≡ q → (p < slots) × (p ≡ q) × (granted (next q) ≡ granted (next p))
      passed l e = (rw e (ltb-true q slots l), e, ap (λ (k : ℕ). granted (next k)) (sym e))

      go : (b w o : Bool) → ltb q slots ≡ b → Ok p ≡ cond b (as_wanted w o (Ok q) (Err (denial w))) (Err Enoent)
          → (p < slots) × (p ≡ q) × (cond b (as_wanted w o (granted (next q)) (refused (denial w))) (refused Enoent) ≡ granted (next p))
      go true true true l h = passed l cc
      go true true false l h = cc
      go true false true l h = cc
      go true false false l h = passed l cc
      go false w o l h = cc
