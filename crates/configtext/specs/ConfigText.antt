-- The configuration of a console line (RULES.md, "Console"): three masks in hex, then two hex digits for each adapter's type.
-- Assumes nothing.
use Rattle.std.specs.Prelude.{ℕ, cond, List, [], eqb, length, get_or}
use Rattle.errno.specs.Outcome.{Outcome, granted, refused}
use Rattle.errno.specs.declared.Errno.TheVariants.{Einval}
use Rattle.mask.specs.declared.Mask.{Mask}
use Rattle.mask.specs.Bits.{Bits, no_bits, numbers}
use Rattle.digits.specs.Digits.{starts_hex}
use Rattle.masktext.specs.Text.{mask_text}
use Rattle.rules.specs.declared.Configuration.{Configuration}
use Rattle.hexbytes.specs.HexBytes.{types_text}

-- what comes of good text; after bad text nothing more is read
unfoldable pub when_good : {A B : Type 0} → Outcome A → (A → Outcome B) → Outcome B
when_good (granted a) next = next a
when_good (refused e) next = refused e

-- a mask in its hex form alone
unfoldable pub hex_text : List ℕ → Outcome Bits
hex_text w = cond (starts_hex w) (mask_text w no_bits) (refused Einval)

-- the mask with some bits
abbrev pub mask_with : Bits → Mask
mask_with b = record { words = numbers 64 4 b 0 }

-- adapters, domains and control domains in hex, then types
unfoldable pub four_text : List ℕ → List ℕ → List ℕ → List ℕ → Outcome Configuration
four_text a d c t =
    when_good (hex_text a) (λ x. when_good (hex_text d) (λ y. when_good (hex_text c) (λ z. when_good (types_text t) (λ ts.
    granted (record { adapters = mask_with x; domains = mask_with y; controls = mask_with z; types = ts })))))

-- the words of a configuration are four
unfoldable pub config_text : List (List ℕ) → Outcome Configuration
config_text ws = cond (eqb (length ws) 4) (four_text (get_or ws 0 []) (get_or ws 1 []) (get_or ws 2 []) (get_or ws 3 [])) (refused Einval)
