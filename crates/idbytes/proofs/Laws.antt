-- The bytes of an id are read as that id.
-- Assumes nothing.
use Prim.Native.Nat.{ℕ, ◌+◌, ◌*◌, ◌/◌, ◌%◌, ◌<◌}
use native.Mathlib.Omega.{arith}
use mathlib.Core.Path.{◌≡◌, ap₂}
use mathlib.Core.List.{List, ◌++◌}
use lib.ListN.{replicate}
use borrow.Rule.Slice.PartMut.{put_mid}
use mir.Syntax.{w64}
use Rattle.std.specs.Int.{to_be_bytes}
use Rattle.rules.specs.declared.Id.{Id}
use Rattle.fields.specs.Fields.{half_at, word_at, id_of}
use Rattle.rows.specs.Rows.{row}
use Rattle.idbytes.specs.IdBytes.{word_byte, id_byte, id_bytes}

-- a byte goes to the end of those above it
two_joined : (n : ℕ) → n / 256 % 256 * 256 + n % 256 ≡ n % 65536
two_joined n = omega arith

three_joined : (n : ℕ) → n / 256 % 65536 * 256 + n % 256 ≡ n % 16777216
three_joined n = omega arith

four_joined : (n : ℕ) → n / 256 % 16777216 * 256 + n % 256 ≡ n % 4294967296
four_joined n = omega arith

-- the lower four bytes of a number
low_back : (n : ℕ) → ((n / 16777216 % 256 * 256 + n / 65536 % 256) * 256 + n / 256 % 256) * 256 + n % 256 ≡ n % 4294967296
low_back n =
    let a : n / 16777216 ≡ n / 256 / 256 / 256 = omega arith in
    let b : n / 65536 ≡ n / 256 / 256 = omega arith in
    rw (a, b, two_joined (n / 256 / 256), three_joined (n / 256), four_joined n)

-- a word from its bytes
word_back : (w : ℕ) → w < 18446744073709551616
    → (((word_byte w 0 * 256 + word_byte w 1) * 256 + word_byte w 2) * 256 + word_byte w 3) * 4294967296
    + (((word_byte w 4 * 256 + word_byte w 5) * 256 + word_byte w 6) * 256 + word_byte w 7) ≡ w
word_back w h =
    let a : w / 72057594037927936 ≡ w / 4294967296 / 16777216 = omega arith in
    let b : w / 281474976710656 ≡ w / 4294967296 / 65536 = omega arith in
    let c : w / 1099511627776 ≡ w / 4294967296 / 256 = omega arith in
    let d : w / 1 ≡ w = omega arith in
    rw (a, b, c, d, low_back (w / 4294967296), low_back w) (omega arith)

pub id_back : (i : Id) → i.hi < 18446744073709551616 → i.lo < 18446744073709551616 → id_of (id_bytes i) ≡ i
unfolding half_at word_at id_of row id_byte id_bytes
id_back i h l = ap₂ (λ (x y : ℕ). record { hi = x; lo = y }) (word_back i.hi h) (word_back i.lo l)

-- the bytes of an id are those of its two halves, put one after the other
pub halves_put : (i : Id) (h l : List ℕ) → h ≡ to_be_bytes w64 i.hi → l ≡ to_be_bytes w64 i.lo → put_mid 8 8 (h ++ replicate 8 0) l ≡ id_bytes i
unfolding row id_byte id_bytes
halves_put i h l p q =
    let a : i.hi / 1 ≡ i.hi = omega arith in
    let b : i.lo / 1 ≡ i.lo = omega arith in
    rw (p, q, a, b)
