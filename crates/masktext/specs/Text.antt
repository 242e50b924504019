-- The text of a mask (RULES.md, "Text"): hex digits after 0x, or a list of items that are worked on the old mask.
-- Assumes nothing.
use Rattle.std.specs.Prelude.{ℕ, Bool, true, cond, ◌&&◌, List, [], ◌∷◌, map, length, drop, eqb, ltb, leb, Result, Ok, Err}
use Rattle.errno.specs.Outcome.{Outcome, granted, refused}
use Rattle.errno.specs.declared.Errno.{Errno}
use Rattle.errno.specs.declared.Errno.TheVariants.{Einval}
use Rattle.mask.specs.declared.Mask.{Mask}
use Rattle.mask.specs.Bits.{Bits, bits, bit_at, included, excluded}
use Rattle.digits.specs.Digits.{digit_of, body, starts_hex}
use Rattle.number.specs.Text.{number_rule}

-- the outcome of an answer, of a mask by its bits
unfoldable pub outcome : Result Mask Errno → Outcome Bits
outcome (Ok m) = granted (bits m)
outcome (Err e) = refused e

-- whether every byte is a hex digit
unfoldable pub all_hex : List ℕ → Bool
all_hex [] = true
all_hex (c ∷ cs) = ltb (digit_of c) 16 && all_hex cs

-- 1 to 64 hex digits, from bit 0 on; the bits to their right are zeros
unfoldable pub hex_mask : List ℕ → Outcome Bits
hex_mask ds = cond (leb 1 (length ds) && leb (length ds) 64 && all_hex ds) (granted (bit_at 4 (map digit_of ds))) (refused Einval)

-- + sets the bit of an item's number, - clears it
unfoldable pub signed : ℕ → Bits → Outcome ℕ → Outcome Bits
signed sign m (granted n) =
    cond (eqb sign 43) (granted (included n m)) (cond (eqb sign 45) (granted (excluded n m)) (refused Einval))
signed sign m (refused e) = refused e

-- one item, worked on a mask: a sign and a number of at most 255
unfoldable pub item : Bits → List ℕ → Outcome Bits
item m [] = refused Einval
item m (sign ∷ n) = signed sign m (number_rule 255 n)

-- what comes of a mask that was granted
unfoldable pub and_then : Outcome Bits → (Bits → Outcome Bits) → Outcome Bits
and_then (granted m) next = next m
and_then (refused e) next = refused e

-- items, worked from left to right
unfoldable pub items : Bits → List (List ℕ) → Outcome Bits
items m [] = granted m
items m (p ∷ ps) = and_then (item m p) (λ n. items n ps)

-- a byte before the first part
unfoldable pub before : ℕ → List (List ℕ) → List (List ℕ)
before c [] = (c ∷ []) ∷ []
before c (p ∷ ps) = (c ∷ p) ∷ ps

-- the parts of a text between its commas
unfoldable pub parts : List ℕ → List (List ℕ)
parts [] = [] ∷ []
parts (c ∷ cs) = cond (eqb c 44) ([] ∷ parts cs) (before c (parts cs))

-- the text of a mask, in either form, with or without a newline at its end
unfoldable pub mask_text : List ℕ → Bits → Outcome Bits
mask_text s old = cond (starts_hex (body s)) (hex_mask (drop 2 (body s))) (items old (parts (body s)))
