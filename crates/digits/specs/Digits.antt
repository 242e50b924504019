-- What the texts of numbers and of masks have in common (RULES.md, "Text").
-- Assumes nothing.
use Rattle.std.specs.Prelude.{ℕ, ◌+◌, ◌-◌, Bool, cond, ◌&&◌, List, length, get_or, take, eqb, ltb, leb, Option, Some, None}

-- the value of a byte as a digit, hex digits of either case; 16 for any other byte
unfoldable pub digit_of : ℕ → ℕ
digit_of c =
    cond (leb 48 c && leb c 57) (c - 48)
    (cond (leb 97 c && leb c 102) (c - 87)
    (cond (leb 65 c && leb c 70) (c - 55) 16))

-- the value, where there is one
unfoldable pub digit_found : ℕ → Option ℕ
digit_found c = cond (ltb (digit_of c) 16) (Some (digit_of c)) None

-- a lower-case hex digit
unfoldable pub hex_digit : ℕ → ℕ
hex_digit n = cond (ltb n 10) (48 + n) (87 + n)

-- the text without one final newline
unfoldable pub body : List ℕ → List ℕ
body s = cond (eqb (get_or s (length s - 1) 0) 10) (take (length s - 1) s) s

-- whether a text starts with 0x
unfoldable pub starts_hex : List ℕ → Bool
starts_hex s = eqb (get_or s 0 0) 48 && eqb (get_or s 1 0) 120
