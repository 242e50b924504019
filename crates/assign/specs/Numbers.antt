-- What assigning and unassigning write: one mask of one device.
-- The rules: RULES.md, "Commands".
-- Assumes nothing.
use Rattle.std.specs.Prelude.{ℕ, min, List}
use Rattle.errno.specs.Outcome.{Outcome, granted, refused}
use Rattle.number.specs.Text.{number_text}
use Rattle.numeral.specs.Numeral.{numeral}
use Rattle.rules.specs.declared.Id.{Id}
use Rattle.rules.specs.declared.Kind.{Kind}
use Rattle.rules.specs.Commands.{Answer, slot_of, assign, unassign}
use Rattle.rules.specs.Refusals.{RefusedExactly}
use Rattle.layout.specs.Layout.{limits_in, host_in, device_in}
use Rattle.layout.specs.Lent.{Lent, LentMut}
use Rattle.layout.specs.Carried.{CarriedWords, Obeys}
use Rattle.assignnumber.specs.Numbers.{assigned_at, unassigned_at}

-- the value of a text's number; bad text has none, and 0 stands for it
unfoldable pub value : Outcome ℕ → ℕ
value (granted n) = n
value (refused e) = 0

-- the words with the number that a text says assigned to, or taken from, the device with an id
abbrev pub assigned : Kind → Id → List ℕ → List ℕ → List ℕ
assigned k i text ws = assigned_at k (slot_of i (device_in ws)) (value (number_text text)) ws

abbrev pub unassigned : Kind → Id → List ℕ → List ℕ → List ℕ
unassigned k i text ws = unassigned_at k (slot_of i (device_in ws)) (value (number_text text)) ws

-- the text that stands for any number: one above 65535 is above every limit, as 65535 is
unfoldable pub text_of : ℕ → List ℕ
text_of n = numeral (min n 65535)

-- assigning the number of a text, on the words ws, which are left as vs
pub record Assigning (k : Kind) (i : Id) (text ws vs : List ℕ) (r : Answer) : Type 0 where
  pub rule : CarriedWords (assign k i text) (assigned k i text) ws vs r
  -- demand 2's sentence
  pub exactly : RefusedExactly k i text (limits_in ws) (host_in ws) (device_in ws) r

-- the same of lent memory at entry and at exit
abbrev pub Assigns : Kind → Id → Lent → LentMut → LentMut → Answer → Type 0
Assigns k i text entry exit r = Assigning k i text.now entry.now exit.now r

-- unassigning the number of a text
abbrev pub Unassigns : Kind → Id → Lent → LentMut → LentMut → Answer → Type 0
Unassigns k i text entry exit r = Obeys (unassign k i text.now) (unassigned k i text.now) entry exit r
