-- What a call comes to. For each kind of answer a definition says which outcome it is.
-- Assumes nothing.
use Rattle.std.specs.Prelude.{Result, Ok, Err}
use Rattle.errno.specs.declared.Errno.{Errno}

-- a value, or a refusal
pub data Outcome (A : Type 0) : Type 0 where
  granted : A → Outcome A
  refused : Errno → Outcome A

-- the outcome of an answer
unfoldable pub outcome : {A : Type 0} → Result A Errno → Outcome A
outcome (Ok x) = granted x
outcome (Err e) = refused e
