-- The words of a line one by one, and a line that is too long or holds a newline.
-- Assumes nothing.
use Prim.Native.Nat.{ℕ, ◌≤◌, ◌<◌}
use mathlib.Core.Bool.{Bool, true, false, cond}
use mathlib.Core.List.{List, [], ◌∷◌}
use mathlib.Core.Path.{◌≡◌, refl, sym, ap, ◌∙◌}
use lib.ListN.{length}
use borrow.Author.Tests.{le-leb, lt-leb}
use Rattle.errno.specs.Outcome.{Outcome}
use Rattle.encoding.specs.Encoding.{Request}
use Rattle.split.specs.Cut.{cut, holds}
use Rattle.wordtext.specs.Words.{is, bad}
use Rattle.linewords.specs.Requests.{by_words, for_config}
use Rattle.linetext.specs.Lines.{piece_request, line_request}

-- ---- the words of a line

pub no_word : by_words [] ≡ bad
unfolding by_words
no_word = refl

pub more_words : (w x y z t : List ℕ) (ts : List (List ℕ)) → by_words (w ∷ x ∷ y ∷ z ∷ t ∷ ts) ≡ cond (is w "config") (for_config (x ∷ y ∷ z ∷ t ∷ ts)) bad
unfolding by_words
more_words w x y z t ts = refl

-- ---- a line, and a piece of an input

pub long_line : (s : List ℕ) → 1024 < length s → piece_request s ≡ bad
unfolding piece_request
long_line s l = rw (lt-leb (length s) 1024 l)

pub short_line : (s : List ℕ) → length s ≤ 1024 → piece_request s ≡ by_words (cut 32 s)
unfolding piece_request
short_line s l = rw (le-leb (length s) 1024 l)

pub ruleset counted = (no_word, more_words, long_line, short_line)

module _ (s : List ℕ) {b : Bool} (q : b ≡ holds 10 s) where
  pub newline_line : b ≡ true → bad ≡ line_request s
  unfolding line_request
  newline_line e = sym (ap (λ (t : Bool). cond t bad (piece_request s)) (sym q ∙ e))

  pub plain_line : {o : Outcome Request} → b ≡ false → o ≡ piece_request s → o ≡ line_request s
  unfolding line_request
  plain_line e h = h ∙ sym (ap (λ (t : Bool). cond t bad (piece_request s)) (sym q ∙ e))
