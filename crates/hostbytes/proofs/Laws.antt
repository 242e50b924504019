-- How many bytes there are, and those of the types, behind those of the masks.
-- Assumes nothing.
use Prim.Native.Nat.{ℕ, ◌<◌, min}
use native.Mathlib.Nat.{zero-add}
use native.Mathlib.Omega.{arith}
use mathlib.Core.List.{List, [], ◌++◌, append-nil}
use mathlib.Core.Path.{◌≡◌, ap, ap₂, sym, ◌∙◌}
use lib.ListN.{length, get_or, drop, length-append, length-drop, drop_of_length-le}
use borrow.Rule.Slice.PartMut.{put_mid, post_of}
use Rattle.std.proofs.lemmas.List.{take_at, drop_at}
use Rattle.mask.specs.Bits.{Bits}
use Rattle.rules.specs.State.{Config}
use Rattle.matrixbytes.specs.Matrices.{mask_bytes}
use Rattle.matrixbytes.proofs.Laws.{mask_long}
use Rattle.rows.proofs.Laws.{row_long, row_at}
use Rattle.hostbytes.specs.Configurations.{type_bytes}

-- three masks are 96 bytes
pub masks_long : (a b c : Bits) → length (mask_bytes a ++ (mask_bytes b ++ mask_bytes c)) ≡ 96
masks_long a b c = simp (length-append, mask_long)

-- the types are 256, and each stands at its adapter
pub types_long : (c : Config) → length (type_bytes c) ≡ 256
types_long c = row_long (λ a. min (c.types a) 255) 0 256

pub type_at : (c : Config) (i : ℕ) → i < 256 → min (c.types i) 255 ≡ get_or (type_bytes c) i 0
type_at c i h =
    let f : ℕ → ℕ = λ a. min (c.types a) 255 in
    ap f (sym (zero-add i)) ∙ sym (row_at f 0 256 i h)

-- the first 96 bytes are written, and then the others
pub both_written : (was front types : List ℕ) → length was ≡ 352 → length front ≡ 96 → length types ≡ 256
    → put_mid 96 256 (front ++ post_of 0 96 was) types ≡ front ++ types
both_written was front types w f t =
    let rest : drop 256 (drop 96 was) ≡ [] = drop_of_length-le (drop 96 was) {i = 256} (omega (arith, length-drop 96 was)) in
    let none : drop 256 (drop 96 (front ++ drop 96 was)) ≡ [] = ap (drop 256) (drop_at front (drop 96 was) 96 f) ∙ rest in
    ap₂ (λ (a b : List ℕ). a ++ (types ++ b)) (take_at front (drop 96 was) 96 f) none ∙ ap (λ (l : List ℕ). front ++ l) (append-nil types)
