-- The lines that bytes end and the line that they begin, when more bytes follow; and what is kept of a line.
-- Assumes nothing.
use Prim.Native.Nat.{ℕ, ◌+◌, ◌-◌, ◌≤◌, ◌<◌, min}
use native.Mathlib.Omega.{arith}
use mathlib.Core.Bool.{Bool, true, false, cond}
use mathlib.Core.List.{List, [], ◌∷◌, ◌++◌, append-nil, append_assoc}
use mathlib.Core.Path.{◌≡◌, refl, sym, ap, ap₂, ◌∙◌}
use lib.Dec.{eqb, leb}
use lib.ListN.{length, take, drop, length-append}
use lib.Seq.{take_all, take-take, take-append-le, take-append-add, take-paste, length-take-le}
use borrow.Author.Tests.{leb-true, leb-false, lt-leb}
use Rattle.split.specs.Cut.{onto, cut, holds, end_from, piece_from}
use Rattle.split.proofs.Laws.{cut_next, cut_end, cut_some, piece_free}
use Rattle.errno.specs.Outcome.{Outcome}
use Rattle.encoding.specs.Encoding.{Request}
use Rattle.wordtext.specs.Words.{bad}
use Rattle.linewords.specs.Requests.{by_words}
use Rattle.linetext.specs.Lines.{piece_request, line_request}
use Rattle.feed.specs.Input.{finished, unfinished, last_line, ended_in, begun_in, read_as, most_kept, kept}
use Rattle.feed.specs.Feeding.{joined_at}

-- ---- all but the last, and the last

module _ (l : List ℕ) where
  pub finished_cons : (ps : List (List ℕ)) → 1 ≤ length ps → finished (l ∷ ps) ≡ l ∷ finished ps
  unfolding finished
  finished_cons [] h = absurd (omega arith)
  finished_cons (p ∷ ps) h = refl

  pub unfinished_cons : (ps : List (List ℕ)) → 1 ≤ length ps → unfinished (l ∷ ps) ≡ unfinished ps
  unfolding unfinished
  unfinished_cons [] h = absurd (omega arith)
  unfinished_cons (p ∷ ps) h = refl

append_some : (xs ys : List (List ℕ)) → 1 ≤ length ys → 1 ≤ length (xs ++ ys)
append_some xs ys h = omega (arith, length-append xs ys)

finished_append : (xs ys : List (List ℕ)) → 1 ≤ length ys → finished (xs ++ ys) ≡ xs ++ finished ys
finished_append [] ys h = refl
finished_append (x ∷ xs) ys h =
    finished_cons x (xs ++ ys) (append_some xs ys h) ∙ ap (λ (ps : List (List ℕ)). x ∷ ps) (finished_append xs ys h)

unfinished_append : (xs ys : List (List ℕ)) → 1 ≤ length ys → unfinished (xs ++ ys) ≡ unfinished ys
unfinished_append [] ys h = refl
unfinished_append (x ∷ xs) ys h = unfinished_cons x (xs ++ ys) (append_some xs ys h) ∙ unfinished_append xs ys h

-- ---- bytes and more bytes

onto_some : (h : List ℕ) (ps : List (List ℕ)) → 1 ≤ length (onto h ps)
unfolding onto
onto_some h [] = omega arith
onto_some h (p ∷ ps) = omega arith

onto_nil : (ps : List (List ℕ)) → 1 ≤ length ps → onto [] ps ≡ ps
unfolding onto
onto_nil [] h = absurd (omega arith)
onto_nil (p ∷ ps) h = refl

onto_onto : (h g : List ℕ) (ps : List (List ℕ)) → onto h (onto g ps) ≡ onto (h ++ g) ps
unfolding onto
onto_onto h g [] = refl
onto_onto h g (p ∷ ps) = ap (λ (l : List ℕ). l ∷ ps) (sym (append_assoc h g p))

onto_rest : (h : List ℕ) (ps qs : List (List ℕ)) → 1 ≤ length ps
    → onto h (finished ps ++ onto (unfinished ps) qs) ≡ finished (onto h ps) ++ onto (unfinished (onto h ps)) qs
unfolding onto finished unfinished
onto_rest h [] qs l = absurd (omega arith)
onto_rest h (p ∷ []) qs l = onto_onto h p qs
onto_rest h (p ∷ o ∷ ps) qs l = refl

cut_append : (c : ℕ) (x y : List ℕ) → cut c (x ++ y) ≡ finished (cut c x) ++ onto (unfinished (cut c x)) (cut c y)
unfolding cut finished unfinished
cut_append c [] y = sym (onto_nil (cut c y) (cut_some c y))
cut_append c (a ∷ x) y = go (eqb a c) (cut_append c x y)
  where
    go : (b : Bool) → cut c (x ++ y) ≡ finished (cut c x) ++ onto (unfinished (cut c x)) (cut c y)
        → cond b ([] ∷ cut c (x ++ y)) (onto (a ∷ []) (cut c (x ++ y)))
        ≡ finished (cond b ([] ∷ cut c x) (onto (a ∷ []) (cut c x))) ++ onto (unfinished (cond b ([] ∷ cut c x) (onto (a ∷ []) (cut c x)))) (cut c y)
    go true e =
        ap (λ (ps : List (List ℕ)). [] ∷ ps) e
        ∙ sym (ap₂ (λ (ps : List (List ℕ)) (l : List ℕ). ps ++ onto l (cut c y)) (finished_cons [] (cut c x) (cut_some c x)) (unfinished_cons [] (cut c x) (cut_some c x)))
    go false e = ap (onto (a ∷ [])) e ∙ onto_rest (a ∷ []) (cut c x) (cut c y) (cut_some c x)

pub ended_append : (x y : List ℕ) → ended_in (x ++ y) ≡ ended_in x ++ finished (onto (begun_in x) (cut 10 y))
ended_append x y = ap finished (cut_append 10 x y) ∙ finished_append (ended_in x) (onto (begun_in x) (cut 10 y)) (onto_some (begun_in x) (cut 10 y))

pub begun_append : (x y : List ℕ) → begun_in (x ++ y) ≡ unfinished (onto (begun_in x) (cut 10 y))
begun_append x y = ap unfinished (cut_append 10 x y) ∙ unfinished_append (ended_in x) (onto (begun_in x) (cut 10 y)) (onto_some (begun_in x) (cut 10 y))

-- ---- the lines from an index on

module _ (i : ℕ) (s : List ℕ) {e : ℕ} (q : e ≡ end_from 10 i s) (h : i ≤ length s) where
  -- a newline is found
  pub ended_next : e < length s → ended_in (drop i s) ≡ piece_from 10 i s ∷ ended_in (drop (e + 1) s)
  ended_next l = ap finished (cut_next 10 i s q h l) ∙ finished_cons (piece_from 10 i s) (cut 10 (drop (e + 1) s)) (cut_some 10 (drop (e + 1) s))

  pub begun_next : e < length s → begun_in (drop i s) ≡ begun_in (drop (e + 1) s)
  begun_next l = ap unfinished (cut_next 10 i s q h l) ∙ unfinished_cons (piece_from 10 i s) (cut 10 (drop (e + 1) s)) (cut_some 10 (drop (e + 1) s))

  -- none is found
  pub ended_none : length s ≤ e → ended_in (drop i s) ≡ []
  unfolding finished
  ended_none l = ap finished (cut_end 10 i s q h l).0

  pub begun_none : length s ≤ e → begun_in (drop i s) ≡ drop i s
  unfolding unfinished
  begun_none l = ap unfinished (cut_end 10 i s q h l).0 ∙ sym (cut_end 10 i s q h l).1

-- a piece between newlines is a line
pub piece_line : (i : ℕ) (s : List ℕ) → piece_request (piece_from 10 i s) ≡ line_request (piece_from 10 i s)
unfolding line_request
piece_line i s =
    sym (ap (λ (b : Bool). cond b bad (piece_request (piece_from 10 i s))) (piece_free 10 i s))

-- ---- what is kept of a line

long_bad : (l : List ℕ) → 1024 < length l → line_request l ≡ bad
unfolding line_request piece_request
long_bad l h = go (holds 10 l) (lt-leb (length l) 1024 h)
  where
    go : (b : Bool) → leb (length l) 1024 ≡ false → cond b bad (cond (leb (length l) 1024) (by_words (cut 32 l)) bad) ≡ bad
    go true e = refl
    go false e = ap (λ (t : Bool). cond t (by_words (cut 32 l)) bad) e

kept_all : (u : List ℕ) → length u ≤ most_kept → kept u ≡ u
unfolding kept
kept_all u h = take_all most_kept u h

kept_long : (u : List ℕ) → most_kept ≤ length u → length (kept u) ≡ most_kept
unfolding kept
kept_long u h = length-take-le most_kept u h

kept_request : (u q : List ℕ) → line_request (kept u ++ q) ≡ line_request (u ++ q)
kept_request u q = go (leb (length u) most_kept) refl
  where
    go : (b : Bool) → leb (length u) most_kept ≡ b → line_request (kept u ++ q) ≡ line_request (u ++ q)
    go true e = ap (λ (l : List ℕ). line_request (l ++ q)) (kept_all u (leb-true (length u) most_kept e))
    go false e =
        let l : most_kept < length u = leb-false (length u) most_kept e in
        long_bad (kept u ++ q) (omega (arith, length-append (kept u) q, kept_long u (omega arith))) ∙ sym (long_bad (u ++ q) (omega (arith, length-append u q)))

kept_join : (u q : List ℕ) → kept (kept u ++ q) ≡ kept (u ++ q)
unfolding kept
kept_join u q = go (leb (length u) most_kept) refl
  where
    go : (b : Bool) → leb (length u) most_kept ≡ b → kept (kept u ++ q) ≡ kept (u ++ q)
    go true e = ap (λ (l : List ℕ). kept (l ++ q)) (kept_all u (leb-true (length u) most_kept e))
    go false e =
        let l : most_kept < length u = leb-false (length u) most_kept e in
        take-append-le most_kept (kept u) q (omega (arith, kept_long u (omega arith))) ∙ take-take most_kept most_kept u (omega arith)
        ∙ sym (take-append-le most_kept u q (omega arith))

pub kept_lines : (u : List ℕ) (ps : List (List ℕ)) → read_as (finished (onto (kept u) ps)) ≡ read_as (finished (onto u ps))
unfolding finished onto
kept_lines u [] = refl
kept_lines u (p ∷ []) = refl
kept_lines u (p ∷ o ∷ ps) = ap (λ (r : Outcome Request). r ∷ read_as (finished (o ∷ ps))) (kept_request u p)

pub kept_last : (u : List ℕ) (ps : List (List ℕ)) → kept (unfinished (onto (kept u) ps)) ≡ kept (unfinished (onto u ps))
unfolding unfinished onto kept
kept_last u [] = take-take most_kept most_kept u (omega arith)
kept_last u (p ∷ []) = kept_join u p
kept_last u (p ∷ o ∷ ps) = refl

-- ---- the buffer of a line

take_least : (k : ℕ) (l : List ℕ) → take (min (length l) k) l ≡ take k l
take_least k l = go (leb (length l) k) refl
  where
    go : (b : Bool) → leb (length l) k ≡ b → take (min (length l) k) l ≡ take k l
    go true e =
        let h : length l ≤ k = leb-true (length l) k e in
        take_all (min (length l) k) l (omega arith) ∙ sym (take_all k l h)
    go false e =
        let h : k < length l = leb-false (length l) k e in
        let m : min (length l) k ≡ k = omega arith in
        ap (λ (j : ℕ). take j l) m

-- what is joined to what is held is what is kept of both
pub joined_held : (buffer : List ℕ) (at : ℕ) (l : List ℕ) → length buffer ≡ most_kept → at ≤ most_kept
    → take (at + min (length l) (most_kept - at)) (joined_at buffer at l) ≡ kept (take at buffer ++ l)
unfolding kept
joined_held buffer at l n h =
    let held : length (take at buffer) ≡ at = length-take-le at buffer (omega arith) in
    let all : length (take at buffer) + (most_kept - at) ≡ most_kept = omega (arith, held) in
    take-paste buffer at l (min (length l) (most_kept - at)) (omega arith) (omega arith)
    ∙ ap (λ (r : List ℕ). take at buffer ++ r) (take_least (most_kept - at) l)
    ∙ sym (take-append-add (take at buffer) l (most_kept - at)) ∙ ap (λ (j : ℕ). take j (take at buffer ++ l)) all

-- ---- a line that is kept is read as the line

pub kept_same : (l : List ℕ) → line_request (kept l) ≡ line_request l
kept_same l = ap line_request (sym (append-nil (kept l))) ∙ kept_request l [] ∙ ap line_request (append-nil l)

pub kept_last_line : (u : List ℕ) → read_as (last_line (kept u)) ≡ read_as (last_line u)
unfolding last_line kept
kept_last_line [] = refl
kept_last_line (x ∷ xs) = ap (λ (r : Outcome Request). r ∷ []) (kept_same (x ∷ xs))
