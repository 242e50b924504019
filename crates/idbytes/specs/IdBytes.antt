-- The bytes of an id: two big-endian words, one after the other.
-- The rules: RULES.md, "Record".
-- Assumes nothing.
use Rattle.std.specs.Prelude.{ℕ, ◌-◌, ◌*◌, ◌/◌, ◌%◌, ◌^◌, cond, List, ◌≡◌, ltb}
use Rattle.rules.specs.declared.Id.{Id}
use Rattle.fields.specs.Fields.{id_of}
use Rattle.rows.specs.Rows.{row}

-- byte k of a word of eight bytes, the most significant first
abbrev pub word_byte : ℕ → ℕ → ℕ
word_byte w k = w / 2 ^ (56 - 8 * k) % 256

-- byte k of an id
unfoldable pub id_byte : Id → ℕ → ℕ
id_byte i k = cond (ltb k 8) (word_byte i.hi k) (word_byte i.lo (k - 8))

-- the 16 bytes of an id
unfoldable pub id_bytes : Id → List ℕ
id_bytes i = row (id_byte i) 0 16

-- r is the bytes of an id, and they are read as that id
pub record AsBytes (i : Id) (r : List ℕ) : Type 0 where
  pub bytes : r ≡ id_bytes i
  pub back : id_of r ≡ i
