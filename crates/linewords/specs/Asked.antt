-- What the answer to a line's words asks for.
-- Assumes nothing.
use Rattle.std.specs.Prelude.{ℕ, List, ◌≡◌, Result, Ok, Err}
use Rattle.errno.specs.Outcome.{Outcome, granted, refused}
use Rattle.errno.specs.declared.Errno.{Errno}
use Rattle.rules.specs.declared.Id.{Id}
use Rattle.rules.specs.declared.Kind.{Kind}
use Rattle.rules.specs.Queues.{most_moves}
use Rattle.model.specs.Steps as Steps
use Rattle.encoding.specs.Encoding as Encoding
use Rattle.encoding.specs.Meant.{meant}
use Rattle.split.specs.Cut.{cut}
use Rattle.linewords.specs.declared.Request.{Request}
use Rattle.linewords.specs.declared.Request.TheVariants.{Command, Config, Move, Sweep}
use Rattle.linewords.specs.Requests.{for_number, for_config}

-- a request, or a refusal
unfoldable pub asked : Result Request Errno → Outcome Encoding.Request
asked (Ok (Command c)) = granted (Encoding.command (meant c))
asked (Ok (Config text)) = for_config (cut 32 text.now)
asked (Ok (Move q)) = granted (Encoding.move q.adapter.0 q.domain.0)
asked (Ok Sweep) = granted (Encoding.sweep most_moves)
asked (Err e) = refused e

-- three words are an id, a kind and a number: a command of the three is asked for
abbrev pub Numbered : List ℕ → List ℕ → List ℕ → Kind → Id → Type 0
Numbered x y z k i = (f : Kind → Id → List ℕ → Steps.Command) → for_number x y z f ≡ granted (Encoding.command (f k i z))

-- one of three words is bad: a command of the three is refused
abbrev pub NotNumbered : List ℕ → List ℕ → List ℕ → Errno → Type 0
NotNumbered x y z e = (f : Kind → Id → List ℕ → Steps.Command) → for_number x y z f ≡ refused e
