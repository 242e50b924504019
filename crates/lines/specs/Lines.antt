-- The listing of a matrix (RULES.md, "Listing"): a line of eight bytes for each queue, by ascending queue.
-- Assumes nothing.
use Rattle.std.specs.Prelude.{ℕ, zero, suc, ◌+◌, ◌-◌, ◌/◌, ◌%◌, cond, List, [], ◌∷◌, ◌++◌, length, take, drop, leb}
use Rattle.digits.specs.Digits.{hex_digit}
use Rattle.mask.specs.Bits.{Bits}
use Rattle.rules.specs.State.{queues, apid, apqi}

-- the bytes of a line
abbrev pub line_size : ℕ
line_size = 8

-- a queue's line: aa.dddd and a newline
unfoldable pub line_of : ℕ → List ℕ
line_of q =
    hex_digit (apid q / 16) ∷ hex_digit (apid q % 16) ∷ 46 ∷ 48 ∷ 48 ∷ hex_digit (apqi q / 16) ∷ hex_digit (apqi q % 16) ∷ 10 ∷ []

-- the bytes b with a queue's line from index k on
abbrev pub with_line : List ℕ → ℕ → ℕ → List ℕ
with_line b k q = take k b ++ line_of q ++ drop (k + line_size) b

-- the numbers that a set has among the n from k on, in ascending order
unfoldable pub set_from : ℕ → ℕ → Bits → List ℕ
set_from zero k m = []
set_from (suc n) k m = cond (m k) (k ∷ set_from n (suc k) m) (set_from n (suc k) m)

-- the queues of a matrix at or after a place
unfoldable pub queues_at : ℕ → Bits → List ℕ
queues_at place m = set_from (queues - place) place m

-- the lines of some queues
unfoldable pub lines_of : List ℕ → List ℕ
lines_of [] = []
lines_of (q ∷ qs) = line_of q ++ lines_of qs

-- the queues whose lines a call writes into a buffer of n bytes: as many whole lines as fit
unfoldable pub fitting : ℕ → ℕ → Bits → List ℕ
fitting n place m = take (n / line_size) (queues_at place m)

-- just after the last of some queues, or the place itself where there are none
unfoldable pub past_last : ℕ → List ℕ → ℕ
past_last place [] = place
past_last place (q ∷ qs) = past_last (q + 1) qs

-- where to go on: past all queues where every line is written, else just after the last queue written
unfoldable pub next_place : ℕ → ℕ → Bits → ℕ
next_place n place m = cond (leb (length (queues_at place m)) (n / line_size)) queues (past_last place (fitting n place m))
