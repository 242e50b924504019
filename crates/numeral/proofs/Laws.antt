-- The text of a number says the number.
-- Assumes nothing.
use Prim.Native.Nat.{ℕ, ◌+◌, ◌*◌, ◌/◌, ◌%◌, ◌≤◌, ◌<◌}
use native.Mathlib.Omega.{arith}
use mathlib.Core.Bool.{Bool, true, false}
use mathlib.Core.List.{[], ◌∷◌}
use mathlib.Core.Path.{◌≡◌, refl, ap, ◌∙◌}
use lib.Dec.{eqb, ltb}
use borrow.Author.Tests.{ltb-true, ltb-false, ne_eqb, lt-ltb, le-leb, lt-leb}
use Rattle.errno.specs.Outcome.{granted}
use Rattle.digits.specs.Digits.{digit_of, hex_digit, body, starts_hex}
use Rattle.number.specs.Text.{digits_after, digits, any_base, at_most, number_rule, number_text}
use Rattle.numeral.specs.Numeral.{numeral, Says}

-- a hex digit is read as its number
digit_back : (d : ℕ) → d < 16 → digit_of (hex_digit d) ≡ d
unfolding digit_of hex_digit
digit_back d h = go (ltb d 10) refl
  where
    go : (b : Bool) → ltb d 10 ≡ b → digit_of (hex_digit d) ≡ d
    go true e =
        let l : d < 10 = ltb-true d 10 e in
        rw (e, le-leb 48 (48 + d) (omega arith), le-leb (48 + d) 57 (omega arith)) (omega arith)
    go false e =
        let l : 10 ≤ d = ltb-false d 10 e in
        rw (e, le-leb 48 (87 + d) (omega arith), lt-leb (87 + d) 57 (omega arith), le-leb 97 (87 + d) (omega arith), le-leb (87 + d) 102 (omega arith))
        (omega arith)

-- a hex digit is no newline
no_newline : (d : ℕ) → eqb (hex_digit d) 10 ≡ false
unfolding hex_digit
no_newline d = go (ltb d 10) refl
  where
    go : (b : Bool) → ltb d 10 ≡ b → eqb (hex_digit d) 10 ≡ false
    go true e = rw e (ne_eqb (48 + d) 10 (λ z. omega arith))
    go false e = rw e (ne_eqb (87 + d) 10 (λ z. omega arith))

-- four digits after 0x
four_digits : (a b c d : ℕ) → a < 16 → b < 16 → c < 16 → d < 16
    → number_text (48 ∷ 120 ∷ hex_digit a ∷ hex_digit b ∷ hex_digit c ∷ hex_digit d ∷ []) ≡ granted (((a * 16 + b) * 16 + c) * 16 + d)
unfolding number_text number_rule body any_base starts_hex digits digits_after at_most
four_digits a b c d ha hb hc hd =
    let first : 0 * 16 + a ≡ a = omega arith in
    rw (no_newline d, digit_back a ha, digit_back b hb, digit_back c hc, digit_back d hd, lt-ltb a 16 ha, lt-ltb b 16 hb, lt-ltb c 16 hc, lt-ltb d 16 hd, first, le-leb (((a * 16 + b) * 16 + c) * 16 + d) 65535 (omega arith))

pub says : Says
unfolding numeral
says n h =
    let two : n / 16 / 16 ≡ n / 256 = omega arith in
    let three : n / 256 / 16 ≡ n / 4096 = omega arith in
    let top : n / 4096 % 16 ≡ n / 4096 = omega arith in
    let second : n / 4096 * 16 + n / 256 % 16 ≡ n / 256 = omega arith in
    let third : n / 256 * 16 + n / 16 % 16 ≡ n / 16 = omega arith in
    let whole : ((n / 4096 % 16 * 16 + n / 256 % 16) * 16 + n / 16 % 16) * 16 + n % 16 ≡ n = rw (top, second, third) (omega arith) in
    four_digits (n / 4096 % 16) (n / 256 % 16) (n / 16 % 16) (n % 16) (omega arith) (omega arith) (omega arith) (omega arith) ∙ ap granted whole
