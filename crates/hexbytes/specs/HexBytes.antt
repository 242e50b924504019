-- Bytes written as hex digits, two each (RULES.md, "Console").
-- Assumes nothing.
use Rattle.std.specs.Prelude.{ℕ, ◌+◌, ◌*◌, Bool, cond, ◌&&◌, List, [], ◌∷◌, eqb, length}
use Rattle.errno.specs.Outcome.{Outcome, granted, refused}
use Rattle.errno.specs.declared.Errno.TheVariants.{Einval}
use Rattle.digits.specs.Digits.{digit_of}
use Rattle.masktext.specs.Text.{all_hex}
use Rattle.rules.specs.declared.Id.{Id}
use Rattle.fields.specs.Fields.{id_of}

-- the bytes of some digits, two each; a digit that is left over stands for none
unfoldable pub byte_pairs : List ℕ → List ℕ
byte_pairs [] = []
byte_pairs (a ∷ []) = []
byte_pairs (a ∷ b ∷ r) = (digit_of a * 16 + digit_of b) ∷ byte_pairs r

-- whether a text is n bytes in hex
unfoldable pub is_hex : ℕ → List ℕ → Bool
is_hex n s = eqb (length s) (2 * n) && all_hex s

-- n bytes: two digits for each
unfoldable pub bytes_text : ℕ → List ℕ → Outcome (List ℕ)
bytes_text n s = cond (is_hex n s) (granted (byte_pairs s)) (refused Einval)

-- an id: the 16 bytes of 32 digits
unfoldable pub id_text : List ℕ → Outcome Id
id_text s = cond (is_hex 16 s) (granted (id_of (byte_pairs s))) (refused Einval)

-- hardware types: two digits for each adapter, from 0 on
unfoldable pub types_text : List ℕ → Outcome (List ℕ)
types_text s = cond (is_hex 256 s) (granted (byte_pairs s)) (refused Einval)
