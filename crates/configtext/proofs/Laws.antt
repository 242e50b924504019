-- Words of a configuration that are good, and the first that is bad.
-- Assumes nothing.
use Prim.Native.Nat.{ℕ}
use native.Mathlib.Omega.{arith}
use mathlib.Core.Bool.{Bool, true, false, cond}
use mathlib.Core.List.{List, [], ◌∷◌}
use mathlib.Core.Path.{◌≡◌, refl, sym, ap, ◌∙◌}
use lib.ListN.{length}
use borrow.Author.Tests.{ne_eqb}
use Rattle.errno.specs.Outcome.{granted, refused}
use Rattle.errno.specs.declared.Errno.{Errno}
use Rattle.errno.specs.declared.Errno.TheVariants.{Einval}
use Rattle.mask.specs.declared.Mask.{Mask}
use Rattle.mask.specs.Bits.{Sized, Bits, bits, no_bits}
use Rattle.mask.proofs.Laws.{numbers_of_bits}
use Rattle.digits.specs.Digits.{starts_hex}
use Rattle.masktext.specs.Text.{mask_text}
use Rattle.hexbytes.specs.HexBytes.{types_text}
use Rattle.configtext.specs.ConfigText.{when_good, hex_text, mask_with, four_text, config_text}

-- a mask is the one with its bits
pub mask_is : (m : Mask) → Sized 64 4 m.words → m ≡ mask_with (bits m)
mask_is m h = ap (λ (ws : List ℕ). record { words = ws }) (sym (numbers_of_bits (omega arith) h))

-- ---- one word

-- a word in the hex form, and one in another
pub hex_is : (w : List ℕ) {b : Bool} {old : Bits} → b ≡ starts_hex w → b ≡ true → old ≡ no_bits → mask_text w old ≡ hex_text w
unfolding hex_text
hex_is w e h n =
    ap (mask_text w) n ∙ sym (ap (λ (t : Bool). cond t (mask_text w no_bits) (refused Einval)) (sym e ∙ h))

pub hex_not : (w : List ℕ) {b : Bool} → b ≡ starts_hex w → b ≡ false → refused Einval ≡ hex_text w
unfolding hex_text
hex_not w e h = sym (ap (λ (t : Bool). cond t (mask_text w no_bits) (refused Einval)) (sym e ∙ h))

-- ---- four words, judged from the left

module _ (a d c t : List ℕ) where
  pub first_bad : {n : Errno} → refused n ≡ hex_text a → refused n ≡ four_text a d c t
  unfolding four_text when_good
  first_bad e = sym (rw (sym e))

  pub second_bad : {x : Bits} {n : Errno} → granted x ≡ hex_text a → refused n ≡ hex_text d → refused n ≡ four_text a d c t
  unfolding four_text when_good
  second_bad e f = sym (rw (sym e, sym f))

  pub third_bad : {x y : Bits} {n : Errno} → granted x ≡ hex_text a → granted y ≡ hex_text d → refused n ≡ hex_text c → refused n ≡ four_text a d c t
  unfolding four_text when_good
  third_bad e f g = sym (rw (sym e, sym f, sym g))

  pub fourth_bad : {x y z : Bits} {n : Errno} → granted x ≡ hex_text a → granted y ≡ hex_text d → granted z ≡ hex_text c → refused n ≡ types_text t
      → refused n ≡ four_text a d c t
  unfolding four_text when_good
  fourth_bad e f g h = sym (rw (sym e, sym f, sym g, sym h))

  pub all_good : (x y z : Mask) {ts : List ℕ} → granted (bits x) ≡ hex_text a → granted (bits y) ≡ hex_text d → granted (bits z) ≡ hex_text c
      → granted ts ≡ types_text t → Sized 64 4 x.words → Sized 64 4 y.words → Sized 64 4 z.words
      → granted (record { adapters = x; domains = y; controls = z; types = ts }) ≡ four_text a d c t
  unfolding four_text when_good
  all_good x y z {ts} e f g h hx hy hz =
      ap granted (λ i. record { adapters = mask_is x hx i; domains = mask_is y hy i; controls = mask_is z hz i; types = ts })
      ∙ sym (rw (sym e, sym f, sym g, sym h))

-- ---- how many words

pub no_word : config_text [] ≡ refused Einval
unfolding config_text
no_word = refl

pub one_word : (a : List ℕ) → config_text (a ∷ []) ≡ refused Einval
unfolding config_text
one_word a = refl

pub two_words : (a d : List ℕ) → config_text (a ∷ d ∷ []) ≡ refused Einval
unfolding config_text
two_words a d = refl

pub three_words : (a d c : List ℕ) → config_text (a ∷ d ∷ c ∷ []) ≡ refused Einval
unfolding config_text
three_words a d c = refl

pub four_words : (a d c t : List ℕ) → config_text (a ∷ d ∷ c ∷ t ∷ []) ≡ four_text a d c t
unfolding config_text
four_words a d c t = refl

pub more_words : (a d c t x : List ℕ) (xs : List (List ℕ)) → config_text (a ∷ d ∷ c ∷ t ∷ x ∷ xs) ≡ refused Einval
unfolding config_text
more_words a d c t x xs = rw (ne_eqb (length (a ∷ d ∷ c ∷ t ∷ x ∷ xs)) 4 (λ e. omega arith))

pub ruleset counted = (no_word, one_word, two_words, three_words, four_words, more_words)
