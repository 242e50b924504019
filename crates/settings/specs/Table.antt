-- The worked settings that are marked P (RULES.md, "Settings"): inputs and outcomes, one row or more for each.
-- Assumes nothing.
use Rattle.std.specs.Prelude.{ℕ, ◌+◌, ◌*◌, Bool, true, false, List, [], ◌∷◌, ◌++◌, ◌≡◌, replicate}
use Prim.Native.String.{String}
use Rattle.errno.specs.Ascii.{ascii}
use Rattle.errno.specs.Outcome.{Outcome, granted, refused}
use Rattle.errno.specs.declared.Errno.TheVariants.{Einval}
use Rattle.mask.specs.Bits.{Bits, no_bits, included, numbers}
use Rattle.mask.specs.declared.Mask.{Mask}
use Rattle.masktext.specs.Text.{mask_text}
use Rattle.rules.specs.declared.Id.{Id}
use Rattle.rules.specs.declared.Kind.TheVariants.{Adapter, Domain}
use Rattle.rules.specs.declared.Moved.{Moved}
use Rattle.rules.specs.declared.Moved.TheVariants.{Idle, Released, BoundPassthrough}
use Rattle.rules.specs.State.{State, fresh}
use Rattle.rules.specs.Queues.{reserved, guest_adapters, guest_domains, remaining, move_answer, moves, moves_used}
use Rattle.lines.specs.Lines.{set_from}
use Rattle.model.specs.Steps.{Step, command, move, create, assign, set_apmask, set_aqmask, configure, after_all, answers}

-- the mask with just these bits set
unfoldable pub mask_with : List ℕ → Bits
mask_with [] = no_bits
mask_with (n ∷ ns) = included n (mask_with ns)

-- the set bits of a mask
unfoldable pub set_bits : Bits → List ℕ
set_bits m = set_from 256 0 m

-- an outcome with the mask as its set bits
unfoldable pub shown : Outcome Bits → Outcome (List ℕ)
shown (granted m) = granted (set_bits m)
shown (refused e) = refused e

-- the mask that a text makes of the empty one; an empty one where the text is bad
unfoldable pub mask_or_none : Outcome Bits → Bits
mask_or_none (granted m) = m
mask_or_none (refused e) = no_bits

unfoldable pub read_mask : String → Bits
read_mask text = mask_or_none (mask_text (ascii text) no_bits)

-- ---- lists of steps

-- the id that ends in n
unfoldable pub id_of : ℕ → Id
id_of n = record { hi = 0; lo = n }

-- create the device n, and assign a number to it, as an operator types it
abbrev pub new : ℕ → Step
new n = command (create (id_of n))

abbrev pub adapter : ℕ → String → Step
adapter n text = command (assign Adapter (id_of n) (ascii text))

abbrev pub domain : ℕ → String → Step
domain n text = command (assign Domain (id_of n) (ascii text))

-- set the host's masks
abbrev pub apmask : String → Step
apmask text = command (set_apmask (ascii text))

abbrev pub aqmask : String → Step
aqmask text = command (set_aqmask (ascii text))

-- configure adapters of type 10 and domains
unfoldable pub words_with : List ℕ → Mask
words_with ns = record { words = numbers 64 4 (mask_with ns) 0 }

abbrev pub config : List ℕ → List ℕ → Step
config us ds =
    command (configure
    (record { adapters = words_with us; domains = words_with ds; controls = words_with []; types = replicate 256 10 }))

-- a fresh record of the highest adapter n
abbrev pub limited : ℕ → State
limited n = fresh (record { adapter = n; domain = 255 })

-- both masks empty
abbrev pub unreserved : List Step
unreserved = apmask "0x0" ∷ aqmask "0x0" ∷ []

-- ---- the table

-- a row
pub data Row : Type 0 where
  -- a mask's text, read on a mask with some bits set, and what it comes to: the set bits, or a refusal
  reads : String → List ℕ → Outcome (List ℕ) → Row
  -- texts of apmask and aqmask, a queue's APID and APQI, and whether it is reserved
  reserves : String → String → ℕ → ℕ → Bool → Row
  -- the highest adapter, a list of steps on a fresh record, and the answers to its commands: errno values, 0 for none
  answering : ℕ → List Step → List ℕ → Row
  -- a list of steps, and the guest adapters and guest domains of the first device after it
  guests : List Step → List ℕ → List ℕ → Row
  -- a list of steps and a queue: the moves remaining before, after one and after two moves of it; what three moves answer;
  -- the moves that a sweep of budget 0 uses
  settling : List Step → ℕ → List ℕ → List Moved → ℕ → Row

-- the guest adapters and guest domains of the first device
abbrev pub adapters_in : State → List ℕ
adapters_in s = set_bits (guest_adapters s (s.device 0))

abbrev pub domains_in : State → List ℕ
domains_in s = set_bits (guest_domains s (s.device 0))

-- the moves remaining before and after moves of queue q, what the moves answer, and what a sweep of budget 0 uses
abbrev pub Settles : State → ℕ → List ℕ → List Moved → ℕ → Type 0
Settles s q left to used =
    (remaining s ∷ remaining (moves 1 q s) ∷ remaining (moves 2 q s) ∷ [] ≡ left)
    × (move_answer q s ∷ move_answer q (moves 1 q s) ∷ move_answer q (moves 2 q s) ∷ [] ≡ to)
    × (moves_used 0 s ≡ used)

-- what a row says
abbrev pub Says : Row → Type 0
Says (reads text old to) = shown (mask_text (ascii text) (mask_with old)) ≡ to
Says (reserves ap aq a d t) = reserved (record { apmask = read_mask ap; aqmask = read_mask aq }) (a * 256 + d) ≡ t
Says (answering n steps to) = answers steps (limited n) ≡ to
Says (guests steps us ds) = (adapters_in (after_all steps (limited 255)) ≡ us) × (domains_in (after_all steps (limited 255)) ≡ ds)
Says (settling steps q left to used) = Settles (after_all steps (limited 255)) q left to used

-- every row of a table
abbrev pub Every : List Row → Type 0
Every [] = Unit {0}
Every (r ∷ rs) = Says r × Every rs

-- two devices: 1,2 x 5,6 and 1,2 x 7
abbrev pub two_devices : List Step
two_devices =
    unreserved
    ++ (new 1 ∷ adapter 1 "1" ∷ adapter 1 "2" ∷ domain 1 "5" ∷ domain 1 "6"
    ∷ new 2 ∷ adapter 2 "1" ∷ adapter 2 "2" ∷ domain 2 "7" ∷ [])

-- one device that has 5,6 x 4,171, all of it configured, and bound to passthrough but for (6,171)
abbrev pub one_unbound : List Step
one_unbound =
    unreserved
    ++ (new 1 ∷ adapter 1 "5" ∷ adapter 1 "6" ∷ domain 1 "4" ∷ domain 1 "171" ∷ config (5 ∷ 6 ∷ []) (4 ∷ 171 ∷ [])
    ∷ move 5 4 ∷ move 5 171 ∷ move 6 4 ∷ [])

-- the table
unfoldable pub table : List Row
table =
    -- 1: bits are counted from the left, and short hex is filled with zeros on the right
    reads "0x41" [] (granted (1 ∷ 7 ∷ []))
    ∷ reads "0x7d" [] (granted (1 ∷ 2 ∷ 3 ∷ 4 ∷ 5 ∷ 7 ∷ []))
    -- 3: items are worked from left to right, each number at most 255
    ∷ reads "+0,-6,+0x47,-0xf0" [] (granted (0 ∷ 71 ∷ []))
    ∷ reads "+255" [] (granted (255 ∷ []))
    ∷ reads "+256" [] (refused Einval)
    -- 4: reserved by both masks
    ∷ reserves "0xffff" "0x40" 15 1 true
    ∷ reserves "0xffff" "0x40" 16 1 false
    ∷ reserves "0xffff" "0x40" 15 0 false
    -- 5: two devices whose products have no queue in common
    ∷ answering 255 two_devices (0 ∷ 0 ∷ 0 ∷ 0 ∷ 0 ∷ 0 ∷ 0 ∷ 0 ∷ 0 ∷ 0 ∷ 0 ∷ [])
    -- 6: domain 6 for the second as well
    ∷ answering 255 (two_devices ++ (domain 2 "6" ∷ [])) (0 ∷ 0 ∷ 0 ∷ 0 ∷ 0 ∷ 0 ∷ 0 ∷ 0 ∷ 0 ∷ 0 ∷ 0 ∷ 98 ∷ [])
    -- 7: on a fresh record adapter 5 is accepted, and then domain 4 is reserved
    ∷ answering 255 (new 1 ∷ adapter 1 "5" ∷ domain 1 "4" ∷ []) (0 ∷ 0 ∷ 99 ∷ [])
    -- 8: the highest adapter is 63
    ∷ answering 63 (new 1 ∷ adapter 1 "63" ∷ adapter 1 "64" ∷ []) (0 ∷ 0 ∷ 19 ∷ [])
    -- 9: one queue that is not passed through drops its adapter
    ∷ guests one_unbound (5 ∷ []) (4 ∷ 171 ∷ [])
    -- 10: with domain 171 no longer configured
    ∷ guests (one_unbound ++ (config (5 ∷ 6 ∷ []) (4 ∷ []) ∷ [])) (5 ∷ 6 ∷ []) (4 ∷ [])
    -- 11: bit 5 of apmask, first with bit 4 of aqmask clear, and then with it set
    ∷ answering 255
    (unreserved ++ (new 1 ∷ adapter 1 "5" ∷ domain 1 "4" ∷ apmask "+5" ∷ apmask "-5" ∷ aqmask "+4" ∷ apmask "+5" ∷ []))
    (0 ∷ 0 ∷ 0 ∷ 0 ∷ 0 ∷ 0 ∷ 0 ∷ 0 ∷ 98 ∷ [])
    -- 12: reserved at one queue and assigned elsewhere at another
    ∷ answering 255
    (unreserved
    ++ (new 1 ∷ adapter 1 "5" ∷ domain 1 "4" ∷ new 2 ∷ domain 2 "4" ∷ domain 2 "6"
    ∷ aqmask "+6" ∷ apmask "+5" ∷ adapter 2 "5" ∷ []))
    (0 ∷ 0 ∷ 0 ∷ 0 ∷ 0 ∷ 0 ∷ 0 ∷ 0 ∷ 0 ∷ 0 ∷ 99 ∷ [])
    -- 13: queue (5,4) goes from the host to passthrough, and nothing else is due
    ∷ settling (config (5 ∷ []) (4 ∷ []) ∷ move 5 4 ∷ apmask "0x0" ∷ []) (5 * 256 + 4)
    (2 ∷ 1 ∷ 0 ∷ []) (Released ∷ BoundPassthrough ∷ Idle ∷ []) 0
    ∷ []
