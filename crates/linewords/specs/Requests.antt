-- The words of a console line (RULES.md, "Console"): a request, or bad text. The state is not looked at.
-- Assumes nothing.
use Rattle.std.specs.Prelude.{ℕ, cond, List, [], ◌∷◌}
use Rattle.errno.specs.Outcome.{Outcome, granted}
use Rattle.mask.specs.Bits.{no_bits}
use Rattle.number.specs.Text.{number_text}
use Rattle.masktext.specs.Text.{mask_text}
use Rattle.rules.specs.declared.Id.{Id}
use Rattle.rules.specs.declared.Kind.{Kind}
use Rattle.rules.specs.Queues.{most_moves}
use Rattle.model.specs.Steps.{Command, create, remove, open_it, close_it, assign, unassign, set_apmask, set_aqmask, configure}
use Rattle.encoding.specs.Encoding.{Request, command, move, sweep}
use Rattle.split.specs.Cut.{cut}
use Rattle.wordtext.specs.Words.{is, bad, kind_text, byte_text}
use Rattle.hexbytes.specs.HexBytes.{id_text}
use Rattle.configtext.specs.ConfigText.{when_good, config_text}

-- a command for the device with an id
abbrev pub for_id : List ℕ → (Id → Command) → Outcome Request
for_id x c = when_good (id_text x) (λ i. granted (command (c i)))

-- a command with a mask: a list is worked on the old mask when the command is carried out, so the text is handed on
abbrev pub for_mask : List ℕ → (List ℕ → Command) → Outcome Request
for_mask x c = when_good (mask_text x no_bits) (λ m. granted (command (c x)))

-- a command with an id, a kind and a number
abbrev pub for_number : List ℕ → List ℕ → List ℕ → (Kind → Id → List ℕ → Command) → Outcome Request
for_number x y z c = when_good (id_text x) (λ i. when_good (kind_text y) (λ k. when_good (number_text z) (λ n. granted (command (c k i z)))))

-- a move of the queue of an APID and an APQI: above 255 is bad text
abbrev pub for_move : List ℕ → List ℕ → Outcome Request
for_move x y = when_good (byte_text x) (λ a. when_good (byte_text y) (λ d. granted (move a d)))

-- a configuration
abbrev pub for_config : List (List ℕ) → Outcome Request
for_config ws = when_good (config_text ws) (λ c. granted (command (configure c)))

-- the request of a first word and all that follows, of four words or more: a configuration
abbrev pub by_many : List ℕ → List ℕ → Outcome Request
by_many w rest = cond (is w "config") (for_config (cut 32 rest)) bad

-- the request of a line's words: a word that is unknown, or not with so many after it, is bad text
unfoldable pub by_words : List (List ℕ) → Outcome Request
by_words [] = bad
by_words (w ∷ []) = cond (is w "sweep") (granted (sweep most_moves)) bad
by_words (w ∷ x ∷ []) =
    cond (is w "create") (for_id x create)
    (cond (is w "remove") (for_id x remove)
    (cond (is w "open") (for_id x open_it)
    (cond (is w "close") (for_id x close_it)
    (cond (is w "apmask") (for_mask x set_apmask)
    (cond (is w "aqmask") (for_mask x set_aqmask) bad)))))
by_words (w ∷ x ∷ y ∷ []) = cond (is w "move") (for_move x y) bad
by_words (w ∷ x ∷ y ∷ z ∷ []) = cond (is w "assign") (for_number x y z assign) (cond (is w "unassign") (for_number x y z unassign) bad)
by_words (w ∷ x ∷ y ∷ z ∷ t ∷ ts) = cond (is w "config") (for_config (x ∷ y ∷ z ∷ t ∷ ts)) bad
