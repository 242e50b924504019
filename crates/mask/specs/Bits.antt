-- Masks as sets of bit numbers, and what is done with them, bit by bit.
-- Bits are counted from the left: bit 0 is the top bit of the first byte.
-- The rules: RULES.md, "Record".
-- Assumes nothing.
use Rattle.std.specs.Prelude.{ℕ, zero, suc, ◌+◌, ◌-◌, ◌*◌, ◌/◌, ◌%◌, ◌^◌, ◌<◌, Bool, false, cond, not, ◌&&◌, ◌||◌, List, [], ◌∷◌, ◌≡◌, length, get_or, eqb, ltb}
use Rattle.mask.specs.declared.Mask.{Mask}

-- a set of bit numbers
abbrev pub Bits : Type 0
Bits = ℕ → Bool

-- digit k of x in base 2, counted from the least significant
unfoldable pub digit : ℕ → ℕ → Bool
digit x k = eqb (x / 2 ^ k % 2) 1

-- bit i of numbers of w bits each, counted from the most significant bit of the first; there are none past the last
unfoldable pub bit_at : ℕ → List ℕ → Bits
bit_at w xs i = digit (get_or xs (i / w) 0) (w - 1 - i % w)

-- the bits of a mask
abbrev pub bits : Mask → Bits
bits m = bit_at 64 m.words

-- no bit
unfoldable pub no_bits : Bits
no_bits i = false

-- all 256 bits
unfoldable pub all_bits : Bits
all_bits i = ltb i 256

-- the bits above a limit
unfoldable pub bits_above : ℕ → Bits
bits_above limit i = ltb limit i && ltb i 256

-- with bit n set
unfoldable pub included : ℕ → Bits → Bits
included n m i = eqb i n || m i

-- with bit n cleared
unfoldable pub excluded : ℕ → Bits → Bits
excluded n m i = not (eqb i n) && m i

-- the bits in both
unfoldable pub both : Bits → Bits → Bits
both a b i = a i && b i

-- the bits in either
unfoldable pub either : Bits → Bits → Bits
either a b i = a i || b i

-- the bits of group g of w bits, set as in the number v
unfoldable pub group : ℕ → ℕ → ℕ → Bits
group w g v i = eqb (i / w) g && digit v (w - 1 - i % w)

-- whether a bit below n is set
unfoldable pub some_below : ℕ → Bits → Bool
some_below zero m = false
some_below (suc n) m = some_below n m || m n

-- how many bits below n are set
unfoldable pub count_below : ℕ → Bits → ℕ
count_below zero m = 0
count_below (suc n) m = count_below n m + cond (m n) 1 0

-- the number of w bits that are those of m from bit k on
unfoldable pub number : ℕ → Bits → ℕ → ℕ
number zero m k = 0
number (suc w) m k = number w m k * 2 + cond (m (k + w)) 1 0

-- n numbers of w bits each that have the bits of m from bit k on
unfoldable pub numbers : ℕ → ℕ → Bits → ℕ → List ℕ
numbers w zero m k = []
numbers w (suc n) m k = number w m k ∷ numbers w n m (k + w)

-- numbers of w bits
abbrev pub Small : ℕ → List ℕ → Type 0
Small w xs = (k : ℕ) → get_or xs k 0 < 2 ^ w

-- n numbers of w bits
pub record Sized (w n : ℕ) (xs : List ℕ) : Type 0 where
  pub long : length xs ≡ n
  pub small : Small w xs
