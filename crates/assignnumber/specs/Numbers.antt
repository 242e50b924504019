-- What assigning and unassigning a number write: one mask of one device.
-- The rules: RULES.md, "Commands".
-- Assumes nothing.
use Rattle.std.specs.Prelude.{ℕ, cond, List, ltb, leb, Result, Ok, Err}
use Rattle.errno.specs.declared.Errno.{Errno}
use Rattle.errno.specs.declared.Errno.TheVariants.{Enoent, Enodev}
use Rattle.mask.specs.Bits.{Bits, included, excluded}
use Rattle.rules.specs.declared.Id.{Id}
use Rattle.rules.specs.declared.Kind.{Kind}
use Rattle.rules.specs.State.{slots}
use Rattle.rules.specs.Commands.{Answer, slot_of, limit_of, numbers_of, assign_number, unassign_number}
use Rattle.rules.specs.Refusals.{NumberRefusedExactly}
use Rattle.layout.specs.Layout.{limits_in, host_in, device_in, put_numbers, words_of}
use Rattle.layout.specs.Lent.{Lent, LentMut}
use Rattle.layout.specs.Carried.{CarriedWords, Obeys}

-- the words with a device's mask of a kind changed
unfoldable pub changed : List ℕ → Kind → ℕ → (Bits → Bits) → List ℕ
changed ws k p f = put_numbers ws p k (words_of (f (numbers_of k (device_in ws p))))

-- the words with a number assigned to, or taken from, the device at slot p
abbrev pub assigned_at : Kind → ℕ → ℕ → List ℕ → List ℕ
assigned_at k p n ws = changed ws k p (included n)

abbrev pub unassigned_at : Kind → ℕ → ℕ → List ℕ → List ℕ
unassigned_at k p n ws = changed ws k p (excluded n)

-- the same for the device with an id
abbrev pub assigned_to : Kind → Id → ℕ → List ℕ → List ℕ
assigned_to k i n ws = assigned_at k (slot_of i (device_in ws)) n ws

abbrev pub unassigned_from : Kind → Id → ℕ → List ℕ → List ℕ
unassigned_from k i n ws = unassigned_at k (slot_of i (device_in ws)) n ws

-- for private functions: where a number goes, as a slot and the number, or why it goes nowhere
abbrev pub Located : Type 0
Located = Result (ℕ × ℕ) Errno

-- the slot of the device with an id, and the number; ENOENT, then ENODEV
unfoldable pub located_in : Kind → Id → ℕ → List ℕ → Located
located_in k i n ws =
    cond (ltb (slot_of i (device_in ws)) slots)
    (cond (leb n (limit_of k (limits_in ws))) (Ok (slot_of i (device_in ws), n)) (Err Enodev)) (Err Enoent)

-- the same of lent memory
abbrev pub located_of : Kind → Id → ℕ → Lent → Located
located_of k i n words = located_in k i n words.now

-- assigning a number, on the words ws, which are left as vs
pub record AssigningNumber (k : Kind) (i : Id) (n : ℕ) (ws vs : List ℕ) (r : Answer) : Type 0 where
  pub rule : CarriedWords (assign_number k i n) (assigned_to k i n) ws vs r
  -- demand 2's sentence
  pub exactly : NumberRefusedExactly k i n (limits_in ws) (host_in ws) (device_in ws) r

-- the same of lent memory at entry and at exit
abbrev pub AssignsNumber : Kind → Id → ℕ → LentMut → LentMut → Answer → Type 0
AssignsNumber k i n entry exit r = AssigningNumber k i n entry.now exit.now r

-- unassigning a number
abbrev pub UnassignsNumber : Kind → Id → ℕ → LentMut → LentMut → Answer → Type 0
UnassignsNumber k i n entry exit r = Obeys (unassign_number k i n) (unassigned_from k i n) entry exit r
