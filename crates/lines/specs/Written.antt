-- What writing the lines of a set of queues leaves in a buffer.
-- The rules: RULES.md, "Listing".
-- Assumes nothing.
use Rattle.std.specs.Prelude.{ℕ, List, ◌++◌, ◌≡◌, length, drop}
use Rattle.mask.specs.Bits.{Bits}
use Rattle.lines.specs.Lines.{lines_of, fitting, next_place}

-- the lines of m from a place on are in the buffer `before`, which is left as `after`: past them it is as it was
pub record Written (m : Bits) (place : ℕ) (before after : List ℕ) (bytes next : ℕ) : Type 0 where
  pub text : after ≡ lines_of (fitting (length before) place m) ++ drop bytes before
  pub size : bytes ≡ length (lines_of (fitting (length before) place m))
  pub go_on : next ≡ next_place (length before) place m
