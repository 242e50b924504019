-- A list of steps as bytes. A step is a header of 20 bytes and a payload:
--   byte 0       the operation: 0 create, 1 remove, 2 open, 3 close, 4 assign, 5 unassign, 6 apmask, 7 aqmask, 8 configure,
--                10 a sweep; any other is a move
--   byte 1       the kind of number: 0 adapter, 1 domain; any other is a control domain
--   bytes 2-17   the id; a move's APID and APQI are bytes 2 and 3, a sweep's budget bytes 2 to 5, big-endian
--   bytes 18-19  the payload's length, big-endian: a text, or a configuration of 96 bytes of masks and 256 types, where missing
--                bytes are 0
-- Every list of bytes is a list of steps: it ends where no whole step is left.
-- The rules: RULES.md, "Reference model and demand 3".
-- Assumes nothing.
use Rattle.std.specs.Prelude.{ℕ, zero, suc, ◌+◌, ◌*◌, Bool, false, cond, List, [], ◌∷◌, length, get_or, take, drop, eqb, leb}
use Rattle.rules.specs.declared.Id.{Id}
use Rattle.rules.specs.declared.Kind.{Kind}
use Rattle.model.specs.Steps.{Command, create, remove, open_it, close_it, assign, unassign, set_apmask, set_aqmask, configure}
use Rattle.fields.specs.Fields.{half_at, id_of, kind_of, configuration_of}

-- what is asked for: a command, a move of the queue of an APID and an APQI, or a sweep with a budget
pub data Request : Type 0 where
  command : Command → Request
  move : ℕ → ℕ → Request
  sweep : ℕ → Request

-- the size of a step, header and payload
unfoldable pub size_of : List ℕ → ℕ
size_of b = 20 + (get_or b 18 0 * 256 + get_or b 19 0)

-- the command of an operation: any but the first eight is a configuration
unfoldable pub command_of : ℕ → Kind → Id → List ℕ → Command
command_of op k i text =
    cond (eqb op 0) (create i)
    (cond (eqb op 1) (remove i)
    (cond (eqb op 2) (open_it i)
    (cond (eqb op 3) (close_it i)
    (cond (eqb op 4) (assign k i text)
    (cond (eqb op 5) (unassign k i text)
    (cond (eqb op 6) (set_apmask text)
    (cond (eqb op 7) (set_aqmask text) (configure (configuration_of text)))))))))

-- the request that a header and a payload stand for
unfoldable pub request_of : List ℕ → Request
request_of b =
    cond (leb (get_or b 0 0) 8) (command (command_of (get_or b 0 0) (kind_of (get_or b 1 0)) (id_of (drop 2 b)) (drop 20 b)))
    (cond (eqb (get_or b 0 0) 10) (sweep (half_at (drop 2 b) 0)) (move (get_or b 2 0) (get_or b 3 0)))

-- whether a whole step is left
unfoldable pub whole : List ℕ → Bool
whole b = cond (leb 20 (length b)) (leb (size_of b) (length b)) false

-- the first n requests of a list, or all where there are fewer
unfoldable pub decode : ℕ → List ℕ → List Request
decode zero b = []
decode (suc n) b = cond (whole b) (request_of (take (size_of b) b) ∷ decode n (drop (size_of b) b)) []
