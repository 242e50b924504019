-- A text for each number up to 65535.
-- The rules: RULES.md, "Text".
-- Assumes nothing.
use Rattle.std.specs.Prelude.{ℕ, ◌/◌, ◌%◌, ◌≤◌, List, [], ◌∷◌, ◌≡◌}
use Rattle.errno.specs.Outcome.{granted}
use Rattle.digits.specs.Digits.{hex_digit}
use Rattle.number.specs.Text.{number_text}

-- 0x and four hex digits
unfoldable pub numeral : ℕ → List ℕ
numeral n = 48 ∷ 120 ∷ hex_digit (n / 4096 % 16) ∷ hex_digit (n / 256 % 16) ∷ hex_digit (n / 16 % 16) ∷ hex_digit (n % 16) ∷ []

-- a numeral is good text, and says the number
abbrev pub Says : Type 0
Says = (n : ℕ) → n ≤ 65535 → number_text (numeral n) ≡ granted n
