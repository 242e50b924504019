-- What a text holds while the lines of domains are written one by one.
-- Assumes nothing.
use Prim.Native.Nat.{ℕ, suc, ◌+◌, ◌-◌, ◌*◌, ◌≤◌, ◌<◌}
use native.Mathlib.Numerals.{add-one}
use native.Mathlib.Omega.{arith}
use mathlib.Core.Path.{◌≡◌, refl, sym, ap, ◌∙◌}
use mathlib.Core.Bool.{Bool, true, false, cond}
use mathlib.Core.List.{List, ◌∷◌, ◌++◌, append-nil, append_assoc}
use lib.ListN.{length, take, drop, take-append-drop}
use lib.Seq.{paste, length-paste, take-paste, drop-paste, length-take-le, drop-drop}
use Rattle.mask.specs.Bits.{Bits}
use Rattle.lines.specs.Lines.{set_from}
use Rattle.controllist.specs.Controls.{domain_line, domain_lines, domain_text}

-- a line is five bytes
pub line_long : (d : ℕ) → length (domain_line d) ≡ 5
unfolding domain_line
line_long d = refl

-- the domains from d on
from_here : (d : ℕ) (m : Bits) {b : Bool} → d < 256 → m d ≡ b
    → set_from (256 - d) d m ≡ cond b (d ∷ set_from (256 - (d + 1)) (d + 1) m) (set_from (256 - (d + 1)) (d + 1) m)
unfolding set_from
from_here d m h e =
    let n : 256 - d ≡ suc (256 - (d + 1)) = omega arith in
    rw (n, e, add-one)

-- the domains before d are done: their lines stand in the first `at` bytes, and the others are as they were
pub record Sofar (m : Bits) (t₀ t : List ℕ) (d at : ℕ) : Type 0 where
  pub all : domain_text m ≡ take at t ++ domain_lines (set_from (256 - d) d m)
  pub most : d ≤ 256
  pub few : at ≤ 5 * d
  pub long : length t ≡ 1280
  pub rest : drop at t ≡ drop at t₀

pub sofar_start : (m : Bits) (t : List ℕ) → length t ≡ 1280 → Sofar m t t 0 0
unfolding domain_text
sofar_start m t l = record { all = refl; most = omega arith; few = omega arith; long = l; rest = refl }

module _ {m : Bits} {t₀ t : List ℕ} {d at : ℕ} (s : Sofar m t₀ t d at) where
  all_but : {l : List ℕ} → set_from (256 - d) d m ≡ l → domain_text m ≡ take at t ++ domain_lines l
  all_but e = s.all ∙ ap (λ (l : List ℕ). take at t ++ domain_lines l) e

  -- one domain more and no line
  pub sofar_skip : d < 256 → m d ≡ false → Sofar m t₀ t (d + 1) at
  sofar_skip h e = record { all = all_but (from_here d m h e); most = omega arith; few = omega arith; long = s.long; rest = s.rest }

  -- one line more
  pub sofar_line : {t' : List ℕ} → d < 256 → m d ≡ true → t' ≡ paste t at (domain_line d) 5 → Sofar m t₀ t' (d + 1) (at + 5)
  unfolding domain_line domain_lines
  sofar_line h e p =
      let more = set_from (256 - (d + 1)) (d + 1) m in
      let five : 5 ≤ length (domain_line d) = omega (arith, line_long d) in
      let fits : at + 5 ≤ length t = omega arith in
      record {
        all = all_but (from_here d m h e) ∙ sym (append_assoc (take at t) (domain_line d) (domain_lines more))
            ∙ ap (λ (l : List ℕ). l ++ domain_lines more) (sym (ap (take (at + 5)) p ∙ take-paste t at (domain_line d) 5 (omega arith) five));
        most = omega arith;
        few = omega arith;
        long = ap length p ∙ length-paste t at (domain_line d) 5 fits five ∙ s.long;
        rest = ap (drop (at + 5)) p ∙ drop-paste t at (domain_line d) 5 (omega arith) five
            ∙ sym (drop-drop 5 at t) ∙ ap (drop 5) s.rest ∙ drop-drop 5 at t₀;
      }

  -- all is written
  pub sofar_end : 256 ≤ d → (t ≡ domain_text m ++ drop at t₀) × (at ≡ length (domain_text m))
  unfolding set_from domain_lines
  sofar_end h =
      let none : 256 - d ≡ 0 = omega arith in
      let text : domain_text m ≡ take at t = all_but (ap (λ (n : ℕ). set_from n d m) none) ∙ append-nil (take at t) in (
        rw (text, ← s.rest) (sym (take-append-drop at t)),
        sym (ap length text ∙ length-take-le at t (omega arith)),
      )
