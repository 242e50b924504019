-- A configuration as bytes.
-- The rules: RULES.md, "Record".
-- Assumes nothing.
use Rattle.std.specs.Prelude.{ℕ, min, List, ◌++◌}
use Rattle.rules.specs.State.{Config}
use Rattle.matrixbytes.specs.Matrices.{mask_bytes}
use Rattle.rows.specs.Rows.{row}

-- a byte for the type of each adapter; a type above 255 is written as 255
abbrev pub type_bytes : Config → List ℕ
type_bytes c = row (λ a. min (c.types a) 255) 0 256

-- three masks, then the types
unfoldable pub configuration_bytes : Config → List ℕ
configuration_bytes c = (mask_bytes c.adapters ++ (mask_bytes c.domains ++ mask_bytes c.controls)) ++ type_bytes c
