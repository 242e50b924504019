-- What taking a part of an input does, on any record: the contracts of the functions.
-- Assumes nothing.
use Rattle.std.specs.Prelude.{ℕ, ◌+◌, ◌-◌, ◌/◌, ◌<◌, ◌≤◌, min, List, [], ◌∷◌, ◌++◌, ◌≡◌, length, take, drop}
use Rattle.std.proofs.Math.Seq.{paste}
use Rattle.errno.specs.Outcome.{Outcome}
use Rattle.rules.specs.State.{Limits}
use Rattle.layout.specs.Carried.{Memory, read}
use Rattle.setup.specs.Fresh.{fresh_memory}
use Rattle.encoding.specs.Encoding.{Request}
use Rattle.run.specs.Running.{GoesOn, leaves_all}
use Rattle.served.specs.Served.{Lending, entering, leaving}
use Rattle.layout.specs.Lent.{Lent}
use Rattle.answerline.specs.Answers.{longest}
use Rattle.split.specs.Cut.{cut, onto}
use Rattle.consoleline.specs.Answering.{Answered}
use Rattle.feed.specs.declared.Fed.{Fed}
use Rattle.feed.specs.declared.Reached.{Reached}
use Rattle.feed.specs.Input.{finished, unfinished, last_line, ended_in, begun_in, read_as, output_of, requests_of, steps_of_lines, most_kept, kept, Taken, Whole}

-- Lines that were carried out on the memory m, which is left as n, with their answers at an index of a buffer: r is the index after them.
pub record Done (os : List (Outcome Request)) (m n : Memory) (at : ℕ) (before after : List ℕ) (r : ℕ) : Type 0 where
  pub written : r ≡ at + length (output_of os (read m))
  pub out : after ≡ take at before ++ (output_of os (read m) ++ drop r before)
  -- every byte
  pub memory : n ≡ leaves_all (requests_of os) m
  -- it was left by calls
  pub calls : GoesOn m n (steps_of_lines os (read m))

-- the buffer of a line with some bytes joined at an index, as many as there is room for
abbrev pub joined_at : List ℕ → ℕ → List ℕ → List ℕ
joined_at buffer at l = paste buffer at l (min (length l) (most_kept - at))

-- the buffer after the pieces of a part: the first goes on with what is held, and what the last began is kept
unfoldable pub buffer_after : List ℕ → ℕ → List (List ℕ) → List ℕ
buffer_after buffer at [] = buffer
buffer_after buffer at (l ∷ []) = joined_at buffer at l
buffer_after buffer at (l ∷ m ∷ ls) = joined_at (joined_at buffer at l) 0 (unfinished (m ∷ ls))

-- the pieces of a part, the first of them after what is held: the first n bytes of a buffer
abbrev pub pieces : ℕ → List ℕ → List ℕ → List (List ℕ)
pieces n buffer part = onto (take n buffer) (cut 10 part)

-- how much of a part is taken: as many bytes as there is room for that many longest answers
abbrev pub taken_of : List ℕ → List ℕ → ℕ
taken_of part out = min (length part) (length out / longest)

-- All of a part is taken, with n bytes of an unfinished line held at the start of a buffer.
pub record Part (n : ℕ) (part buffer buffer' out out' : List ℕ) (m m' : Memory) (r : Fed) : Type 0 where
  pub taken : r.taken ≡ length part
  -- the lines that are ended now are answered and carried out
  pub done : Done (read_as (finished (pieces n buffer part))) m m' 0 out out' r.written
  -- what was begun is kept; every byte of the buffer
  pub held : r.held ≡ length (kept (unfinished (pieces n buffer part)))
  pub line : take r.held buffer' ≡ kept (unfinished (pieces n buffer part))
  pub bytes : buffer' ≡ buffer_after buffer n (cut 10 part)

-- As much of a part is taken as there is room for answers. A buffer holds no more than its length.
pub record Feeding (n : ℕ) (part buffer buffer' out out' : List ℕ) (m m' : Memory) (r : Fed) : Type 0 where
  pub all : Part (min n most_kept) (take (taken_of part out) part) buffer buffer' out out' m m' r
  -- the parts of an input do not matter: what holds of the bytes before this part holds of them and this part
  pub input : (l : Limits) (bytes before : List ℕ) → Taken l bytes before m (take (min n most_kept) buffer)
      → Taken l (bytes ++ take (taken_of part out) part) (before ++ take r.written out') m' (take r.held buffer')

-- The input has ended, with n bytes of an unfinished line held. Without room for the longest answer nothing is done.
pub record Ending (n : ℕ) (buffer out out' : List ℕ) (m m' : Memory) (r : ℕ) : Type 0 where
  pub short : length out < longest → (r ≡ 0) × (out' ≡ out) × (m' ≡ m)
  pub done : longest ≤ length out → Done (read_as (last_line (take (min n most_kept) buffer))) m m' 0 out out' r
  -- then the whole input is carried out
  pub input : longest ≤ length out → (l : Limits) (bytes before : List ℕ) → Taken l bytes before m (take (min n most_kept) buffer)
      → Whole l bytes (before ++ take r out') m'

-- the same of lent memory
abbrev pub Feeds : ℕ → Lent → Lending → Lending → Lending → Lending → Fed → Type 0
Feeds n part buffer out words drivers r =
    Feeding n part.now buffer.entry.now buffer.exit.now out.entry.now out.exit.now
    (entering words drivers) (leaving words drivers) r

abbrev pub Ends : ℕ → Lent → Lending → Lending → Lending → ℕ → Type 0
Ends n buffer out words drivers r =
    Ending n buffer.now out.entry.now out.exit.now (entering words drivers) (leaving words drivers) r

-- ---- parts of these

-- a fresh record of limits 255 and 255, of which no input was taken yet
abbrev pub highest : Limits
highest = record { adapter = 255; domain = 255 }

pub record Begun (m : Memory) : Type 0 where
  pub memory : m ≡ fresh_memory 255 255
  pub input : Taken highest [] [] m []

abbrev pub Begins : Lending → Lending → Type 0
Begins words drivers = Begun (leaving words drivers)

-- all of a part is taken
abbrev pub Parts : ℕ → Lent → Lending → Lending → Lending → Lending → Fed → Type 0
Parts n part buffer out words drivers r = Part n part.now buffer.entry.now buffer.exit.now out.entry.now out.exit.now (entering words drivers) (leaving words drivers) r

-- one line's answer is written at an index
pub record One (o : Outcome Request) (at : ℕ) (before after : List ℕ) (m n : Memory) (r : ℕ) : Type 0 where
  pub line : List ℕ
  pub answered : Answered o m n line
  pub out : after ≡ paste before at line (length line)
  pub written : r ≡ at + length line
  pub fits : length line ≤ longest

abbrev pub OneDone : Outcome Request → ℕ → Lending → Lending → Lending → ℕ → Type 0
OneDone o at out words drivers r = One o at out.entry.now out.exit.now (entering words drivers) (leaving words drivers) r

-- the lines from an index on are carried out, as far as a newline ends them
pub record Going (part : List ℕ) (from at : ℕ) (before after : List ℕ) (m n : Memory) (r : Reached) : Type 0 where
  pub done : Done (read_as (ended_in (drop from part))) m n at before after r.written
  pub within : r.at ≤ length part
  pub rest : drop r.at part ≡ begun_in (drop from part)

abbrev pub Goes : Lent → ℕ → ℕ → Lending → Lending → Lending → Reached → Type 0
Goes part from at out words drivers r =
    Going part.now from at out.entry.now out.exit.now (entering words drivers) (leaving words drivers) r
