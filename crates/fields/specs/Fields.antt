-- Ids, kinds, masks and configurations in bytes. Missing bytes are zeros.
-- Assumes nothing.
use Rattle.std.specs.Prelude.{ℕ, zero, suc, ◌+◌, ◌*◌, cond, List, [], ◌∷◌, get_or, eqb}
use Rattle.mask.specs.Bits.{bit_at, numbers}
use Rattle.mask.specs.declared.Mask.{Mask}
use Rattle.rules.specs.declared.Id.{Id}
use Rattle.rules.specs.declared.Kind.{Kind}
use Rattle.rules.specs.declared.Kind.TheVariants.{Adapter, Domain, Control}
use Rattle.rules.specs.declared.Configuration.{Configuration}

-- four bytes from k on as a big-endian number
unfoldable pub half_at : List ℕ → ℕ → ℕ
half_at b k = ((get_or b k 0 * 256 + get_or b (k + 1) 0) * 256 + get_or b (k + 2) 0) * 256 + get_or b (k + 3) 0

-- eight bytes
unfoldable pub word_at : List ℕ → ℕ → ℕ
word_at b k = half_at b k * 4294967296 + half_at b (k + 4)

-- the id of the first sixteen bytes
unfoldable pub id_of : List ℕ → Id
id_of b = record { hi = word_at b 0; lo = word_at b 8 }

-- the kind of number: 0 adapter, 1 domain, any other a control domain
unfoldable pub kind_of : ℕ → Kind
kind_of n = cond (eqb n 0) Adapter (cond (eqb n 1) Domain Control)

-- the mask of the 32 bytes from k on
unfoldable pub mask_of : List ℕ → ℕ → Mask
mask_of b k = record { words = numbers 64 4 (bit_at 8 b) (k * 8) }

-- the n bytes from k on, zeros where there are none
unfoldable pub bytes_at : List ℕ → ℕ → ℕ → List ℕ
bytes_at b k zero = []
bytes_at b k (suc n) = get_or b k 0 ∷ bytes_at b (suc k) n

-- the configuration in a payload
unfoldable pub configuration_of : List ℕ → Configuration
configuration_of b = record { adapters = mask_of b 0; domains = mask_of b 32; controls = mask_of b 64; types = bytes_at b 96 256 }
