-- The text of a number (RULES.md, "Text"): base 16 after 0x, base 8 after a leading 0, else base 10.
-- Assumes nothing.
use Rattle.std.specs.Prelude.{ℕ, ◌+◌, ◌*◌, cond, List, [], ◌∷◌, length, get_or, drop, eqb, ltb, leb}
use Rattle.errno.specs.Outcome.{Outcome, granted, refused}
use Rattle.errno.specs.declared.Errno.TheVariants.{Einval}
use Rattle.digits.specs.Digits.{digit_of, body, starts_hex}

-- the value of digits of a base, v being that of the digits before them
unfoldable pub digits_after : ℕ → ℕ → List ℕ → Outcome ℕ
digits_after base v [] = granted v
digits_after base v (c ∷ cs) = cond (ltb (digit_of c) base) (digits_after base (v * base + digit_of c) cs) (refused Einval)

-- the value of one digit or more of a base
unfoldable pub digits : ℕ → List ℕ → Outcome ℕ
digits base [] = refused Einval
digits base (c ∷ cs) = digits_after base 0 (c ∷ cs)

-- the value by the prefix
unfoldable pub any_base : List ℕ → Outcome ℕ
any_base s = cond (starts_hex s) (digits 16 (drop 2 s)) (cond (eqb (get_or s 0 0) 48) (digits 8 s) (digits 10 s))

-- a value above the limit is bad
unfoldable pub at_most : ℕ → Outcome ℕ → Outcome ℕ
at_most limit (granted v) = cond (leb v limit) (granted v) (refused Einval)
at_most limit (refused e) = refused e

-- the number rule, for values up to a limit: at most 16 bytes, with no newline
unfoldable pub number_rule : ℕ → List ℕ → Outcome ℕ
number_rule limit s = cond (leb (length s) 16) (at_most limit (any_base s)) (refused Einval)

-- the text of a number: one final newline is allowed
unfoldable pub number_text : List ℕ → Outcome ℕ
number_text s = number_rule 65535 (body s)
