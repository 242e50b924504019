-- What setting a host mask checks, and what it leaves in memory.
-- The rules: RULES.md, "Commands".
-- Assumes nothing.
use Rattle.std.specs.Prelude.{ℕ, cond, List, Ok, Err}
use Rattle.errno.specs.Outcome.{Outcome, granted, refused}
use Rattle.errno.specs.declared.Errno.TheVariants.{Eaddrinuse}
use Rattle.mask.specs.Bits.{Bits, some_below, both}
use Rattle.masktext.specs.Text.{mask_text}
use Rattle.rules.specs.State.{Devices, queues}
use Rattle.rules.specs.Commands.{Answer, assigned}
use Rattle.layout.specs.Layout.{mask_at, put_four, words_of, apmask_at, aqmask_at}

-- the mask that a text was read as; bad text leaves the old one
unfoldable pub mask_or : Bits → Outcome Bits → Bits
mask_or old (granted m) = m
mask_or old (refused e) = old

-- the words with the mask at word k replaced by what the text says of it
unfoldable pub with_mask : ℕ → List ℕ → List ℕ → List ℕ
with_mask k text ws = put_four ws k (words_of (mask_or (mask_at ws k) (mask_text text (mask_at ws k))))

-- the two masks
abbrev pub with_apmask : List ℕ → List ℕ → List ℕ
with_apmask = with_mask apmask_at

abbrev pub with_aqmask : List ℕ → List ℕ → List ℕ
with_aqmask = with_mask aqmask_at

-- ---- for private functions

-- the answer for queues that are to be reserved: EADDRINUSE if one is assigned
unfoldable pub unassigned : Bits → Devices → Answer
unassigned reserved vs = cond (some_below queues (both reserved (assigned vs))) (Err Eaddrinuse) (Ok tt)
