-- How many queues a set has, and what a buffer holds while their lines are written one by one.
-- Assumes nothing.
use Prim.Native.Nat.{ℕ, zero, suc, ◌+◌, ◌-◌, ◌*◌, ◌/◌, ◌≤◌, ◌<◌, zero-le}
use native.Mathlib.Nat.{zero-add, add-zero}
use native.Mathlib.Numerals.{add-one, one-add}
use native.Mathlib.Omega.{arith}
use mathlib.Core.Path.{◌≡◌, refl, sym, ap, ap₂, ◌∙◌}
use mathlib.Core.Bool.{Bool, true, false, cond}
use mathlib.Core.List.{List, [], ◌∷◌, ◌++◌, append-nil, append_assoc}
use lib.ListN.{length, take, drop, length-append, length-drop}
use lib.Seq.{take_all, take_at, drop_at, drop-drop, append_snoc}
use borrow.Author.Tests.{le-leb, lt-leb}
use Rattle.mask.specs.Bits.{Bits, count_below}
use Rattle.mask.proofs.Laws.{count_cong, count_add}
use Rattle.rules.specs.State.{queues}
use Rattle.lines.specs.Lines.{line_size, line_of, with_line, lines_of, set_from, queues_at, fitting, past_last, next_place}
use Rattle.lines.specs.Written.{Written}

-- ---- how many queues

one_more : (b : Bool) (k : ℕ) (qs : List ℕ) → length (cond b (k ∷ qs) qs) ≡ cond b 1 0 + length qs
one_more true k qs = sym (one-add (length qs))
one_more false k qs = sym (zero-add (length qs))

length_queues : (n k : ℕ) (m : Bits) → length (set_from n k m) ≡ count_below n (λ i. m (k + i))
unfolding set_from count_below
length_queues zero k m = refl
length_queues (suc n) k m =
    let f : Bits = λ i. m (k + i) in
    let first : count_below 1 f ≡ cond (m k) 1 0 = zero-add (cond (m (k + 0)) 1 0) ∙ ap (λ (x : ℕ). cond (m x) 1 0) (add-zero k) in
    let rest : count_below n (λ i. f (1 + i)) ≡ length (set_from n (suc k) m) =
    count_cong n (λ i. f (1 + i)) (λ i. m (suc k + i)) (λ i l. ap m (omega arith)) ∙ sym (length_queues n (suc k) m) in
    one_more (m k) k (set_from n (suc k) m) ∙ sym (ap₂ ◌+◌ first rest) ∙ sym (count_add 1 n f) ∙ ap (λ (x : ℕ). count_below x f) (one-add n)

pub count_queues : (m : Bits) → length (queues_at 0 m) ≡ count_below queues m
unfolding queues_at
count_queues m = length_queues queues 0 m ∙ count_cong queues (λ i. m (0 + i)) m (λ i l. ap m (zero-add i))

-- ---- lines

pub line_long : (q : ℕ) → length (line_of q) ≡ 8
unfolding line_of
line_long q = refl

lines_long : (qs : List ℕ) → length (lines_of qs) ≡ 8 * length qs
unfolding lines_of
lines_long [] = refl
lines_long (q ∷ qs) = length-append (line_of q) (lines_of qs) ∙ omega (arith, line_long q, lines_long qs)

lines_snoc : (qs : List ℕ) (q : ℕ) → lines_of (qs ++ (q ∷ [])) ≡ lines_of qs ++ line_of q
unfolding lines_of
lines_snoc [] q = append-nil (line_of q)
lines_snoc (p ∷ qs) q = ap (λ (l : List ℕ). line_of p ++ l) (lines_snoc qs q) ∙ sym (append_assoc (line_of p) (lines_of qs) (line_of q))

past_snoc : (place : ℕ) (qs : List ℕ) (q : ℕ) → past_last place (qs ++ (q ∷ [])) ≡ q + 1
unfolding past_last
past_snoc place [] q = refl
past_snoc place (p ∷ qs) q = past_snoc (p + 1) qs q

-- ---- the queues from k on

from_suc : (n k : ℕ) (m : Bits) → set_from (suc n) k m ≡ cond (m k) (k ∷ set_from n (k + 1) m) (set_from n (k + 1) m)
unfolding set_from
from_suc n k m = ap (λ (j : ℕ). cond (m k) (k ∷ set_from n j m) (set_from n j m)) (sym (add-one k))

from_here : (k : ℕ) (m : Bits) {b : Bool} → k < queues → m k ≡ b
    → set_from (queues - k) k m ≡ cond b (k ∷ set_from (queues - (k + 1)) (k + 1) m) (set_from (queues - (k + 1)) (k + 1) m)
from_here k m h e =
    let n : queues - k ≡ suc (queues - (k + 1)) = omega arith in
    let rest = set_from (queues - (k + 1)) (k + 1) m in
    ap (λ (n : ℕ). set_from n k m) n ∙ from_suc (queues - (k + 1)) k m ∙ ap (λ (b : Bool). cond b (k ∷ rest) rest) e

from_end : (k : ℕ) (m : Bits) → queues ≤ k → set_from (queues - k) k m ≡ []
unfolding set_from
from_end k m h =
    let e : queues - k ≡ 0 = omega arith in
    ap (λ (n : ℕ). set_from n k m) e

-- ---- a buffer while the lines are written

-- the queues before k are done, and their lines stand in the first `at` bytes
pub record Sofar (m : Bits) (place : ℕ) (b₀ b : List ℕ) (k at next : ℕ) : Type 0 where
  pub done : List ℕ
  pub all : queues_at place m ≡ done ++ set_from (queues - k) k m
  pub size : at ≡ 8 * length done
  pub fits : at ≤ length b₀
  pub long : length b ≡ length b₀
  pub text : b ≡ lines_of done ++ drop at b₀
  pub go_on : next ≡ past_last place done

pub sofar_start : (m : Bits) (place : ℕ) (b : List ℕ) → Sofar m place b b place 0 place
unfolding queues_at lines_of past_last
sofar_start m place b = record { done = []; all = refl; size = refl; fits = zero-le; long = refl; text = refl; go_on = refl }

module _ {m : Bits} {place : ℕ} {b₀ b : List ℕ} {k at next : ℕ} (s : Sofar m place b₀ b k at next) where
  all_but : {l : List ℕ} → set_from (queues - k) k m ≡ l → queues_at place m ≡ s.done ++ l
  all_but e = s.all ∙ ap (λ (l : List ℕ). s.done ++ l) e

  -- one queue more and no line
  pub sofar_skip : k < queues → m k ≡ false → Sofar m place b₀ b (k + 1) at next
  sofar_skip h e =
      record { done = s.done; all = all_but (from_here k m h e); size = s.size; fits = s.fits; long = s.long; text = s.text; go_on = s.go_on }

  lines_size : length (lines_of s.done) ≡ at
  lines_size = lines_long s.done ∙ sym s.size

  -- one line more
  pub sofar_line : {b' : List ℕ} → k < queues → m k ≡ true → at + line_size ≤ length b → b' ≡ with_line b at k
      → Sofar m place b₀ b' (k + 1) (at + line_size) (k + 1)
  sofar_line {b'} h e f p =
      let before : take at b ≡ lines_of s.done = ap (take at) s.text ∙ take_at (lines_of s.done) (drop at b₀) at lines_size in
      let after : drop (at + 8) b ≡ drop (at + 8) b₀ =
      sym (drop-drop 8 at b) ∙ ap (λ (l : List ℕ). drop 8 (drop at l)) s.text ∙ ap (drop 8) (drop_at (lines_of s.done) (drop at b₀) at lines_size) ∙ drop-drop 8 at b₀ in
      let more : length (s.done ++ (k ∷ [])) ≡ length s.done + 1 = length-append s.done (k ∷ []) in
      let text' : b' ≡ lines_of (s.done ++ (k ∷ [])) ++ drop (at + 8) b₀ =
      p ∙ ap₂ (λ (u v : List ℕ). u ++ line_of k ++ v) before after ∙ ap (λ (l : List ℕ). l ++ drop (at + 8) b₀) (sym (lines_snoc s.done k)) in
      record {
        done = s.done ++ (k ∷ []);
        all = all_but (from_here k m h e) ∙ sym (append_snoc s.done k (set_from (queues - (k + 1)) (k + 1) m));
        size = omega (arith, s.size);
        fits = omega (arith, s.long);
        long = ap length text' ∙ length-append (lines_of (s.done ++ (k ∷ []))) (drop (at + 8) b₀)
            ∙ omega (arith, lines_long (s.done ++ (k ∷ [])), length-drop (at + 8) b₀, s.size, s.long);
        text = text';
        go_on = sym (past_snoc place s.done k);
      }

  written : {n : ℕ} → fitting (length b₀) place m ≡ s.done → n ≡ next_place (length b₀) place m → Written m place b₀ b at n
  written e n =
      record { text = s.text ∙ ap (λ (l : List ℕ). lines_of l ++ drop at b₀) (sym e); size = sym (ap (λ (l : List ℕ). length (lines_of l)) e ∙ lines_size); go_on = n }

  -- a line more does not fit
  pub sofar_full : k < queues → m k ≡ true → length b < at + line_size → Written m place b₀ b at next
  unfolding fitting next_place
  sofar_full h e f =
      let rest : List ℕ = set_from (queues - (k + 1)) (k + 1) m in
      let all : queues_at place m ≡ s.done ++ k ∷ rest = all_but (from_here k m h e) in
      let count : length b₀ / 8 ≡ length s.done = omega (arith, s.size, s.fits, s.long) in
      let many : length (queues_at place m) ≡ length s.done + length (k ∷ rest) = ap length all ∙ length-append s.done (k ∷ rest) in
      let fit : fitting (length b₀) place m ≡ s.done = ap (take (length b₀ / 8)) all ∙ take_at s.done (k ∷ rest) (length b₀ / 8) (sym count) in
      written fit (rw (lt-leb (length (queues_at place m)) (length b₀ / 8) (omega (arith, count, many))) (s.go_on ∙ ap (past_last place) (sym fit)))

  -- all is written
  pub sofar_end : queues ≤ k → Written m place b₀ b at queues
  unfolding fitting next_place
  sofar_end h =
      let all : queues_at place m ≡ s.done = all_but (from_end k m h) ∙ append-nil s.done in
      let count : length s.done ≤ length b₀ / 8 = omega (arith, s.size, s.fits) in
      written
      (ap (take (length b₀ / 8)) all ∙ take_all (length b₀ / 8) s.done count)
      (rw (le-leb (length (queues_at place m)) (length b₀ / 8) (omega (arith, ap length all))))
