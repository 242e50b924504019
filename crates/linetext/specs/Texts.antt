-- What is read as a command has good text: no record can refuse it for that (RULES.md, "Console").
-- Assumes nothing.
use Rattle.std.specs.Prelude.{◌≡◌}
use Rattle.errno.specs.Outcome.{Outcome, granted}
use Rattle.mask.specs.Bits.{Bits}
use Rattle.number.specs.Text.{number_text}
use Rattle.masktext.specs.Text.{mask_text}
use Rattle.model.specs.Steps.{Command, create, remove, open_it, close_it, assign, unassign, set_apmask, set_aqmask, configure}
use Rattle.encoding.specs.Encoding.{Request, command}

-- a text that is read as something
abbrev pub Good : {A : Type 0} → Outcome A → Type 0
Good {A} o = (a : A) × (o ≡ granted a)

-- the text that a command carries is good, a mask's on any old mask
unfoldable pub GoodText : Command → Type 0
GoodText (create i) = Unit {0}
GoodText (remove i) = Unit {0}
GoodText (open_it i) = Unit {0}
GoodText (close_it i) = Unit {0}
GoodText (assign k i t) = Good (number_text t)
GoodText (unassign k i t) = Good (number_text t)
GoodText (set_apmask t) = (old : Bits) → Good (mask_text t old)
GoodText (set_aqmask t) = (old : Bits) → Good (mask_text t old)
GoodText (configure c) = Unit {0}

-- if it is a command, its text is good
abbrev pub OnlyGood : Outcome Request → Type 0
OnlyGood o = (c : Command) → o ≡ granted (command c) → GoodText c
