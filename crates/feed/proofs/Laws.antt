-- A part of an input, line by line; and the parts of an input together.
-- Assumes nothing.
use Prim.Native.Nat.{ℕ, ◌+◌, ◌-◌, ◌*◌, ◌≤◌, ◌<◌, min}
use native.Mathlib.Omega.{arith}
use native.Mathlib.Nat.{zero-add}
use mathlib.Core.Bool.{Bool, cond}
use mathlib.Core.List.{List, [], ◌∷◌, ◌++◌, append-nil, append_assoc}
use mathlib.Core.Path.{◌≡◌, refl, sym, ap, ap₂, subst, ◌∙◌}
use lib.ListN.{length, take, drop, length-drop}
use lib.Seq.{paste, length-paste, length-take-le, drop-drop}
use borrow.Rule.Slice.PartMut.{put_mid}
use Rattle.std.proofs.lemmas.List.{take_rest, drop_all}
use borrow.Author.Tests.{le-leb}
use Rattle.errno.specs.Outcome.{Outcome}
use Rattle.rules.specs.Commands.{Answer}
use Rattle.rules.specs.State.{Limits}
use Rattle.layout.specs.Carried.{Memory}
use Rattle.calls.specs.Calls.{Freshened, begins}
use Rattle.encoding.specs.Encoding.{Request}
use Rattle.run.proofs.Laws.{made}
use Rattle.answerline.specs.declared.Said.{Said}
use Rattle.answerline.specs.Answers.{said_line, longest, Put}
use Rattle.answerline.proofs.Laws.{said_short}
use Rattle.split.specs.Cut.{cut, onto, end_from, piece_from}
use Rattle.split.proofs.Laws.{cut_one, cut_end, cut_some, end_within}
use Rattle.linetext.specs.Lines.{piece_request, line_request}
use Rattle.consoleline.specs.Answering.{Answered}
use Rattle.feed.specs.declared.Fed.{Fed}
use Rattle.feed.specs.declared.Reached.{Reached}
use Rattle.feed.specs.Input.{finished, unfinished, last_line, ended_in, begun_in, lines_of, read_as, most_kept, kept, Played, Taken, output, last_state, Whole}
use Rattle.feed.specs.Feeding.{Done, joined_at, buffer_after, pieces, taken_of, Part, Feeding, Ending, One, Going, Begun}
use Rattle.feed.proofs.Pieces.{finished_cons, unfinished_cons, ended_append, begun_append, ended_next, begun_next, ended_none, begun_none, piece_line, kept_same, kept_lines, kept_last, kept_last_line, joined_held}
use Rattle.feed.proofs.Played.{done_none, done_first, played_more, played_none}

-- ---- one line

-- there is room for the answer
pub one_put : {o : Outcome Request} {m n : Memory} (said : Said) {at r : ℕ} {before after : List ℕ} → Answered o m n (said_line said)
    → Put (said_line said) at before after r → at + longest ≤ length before → One o at before after m n r
one_put said {at} {r} {before} {after} a p h =
    let line = said_line said in
    let room = le-leb (at + longest) (length before) h in
    record {
      line = line;
      answered = a;
      out = p.bytes ∙ ap (λ (b : Bool). cond b (paste before at line (length line)) before) room;
      written = p.next ∙ ap (λ (b : Bool). cond b (at + length line) at) room;
      fits = said_short said;
    }

one_as : {o p : Outcome Request} {at r : ℕ} {before after : List ℕ} {m n : Memory} → o ≡ p → One p at before after m n r → One o at before after m n r
one_as {o} {p} {at} {r} {before} {after} {m} {n} e x = subst (λ (q : Outcome Request). One q at before after m n r) (sym e) x

-- the buffer keeps its length
one_long : {o : Outcome Request} {at r : ℕ} {before after : List ℕ} {m n : Memory} → One o at before after m n r → at + longest ≤ length before
    → length after ≡ length before
one_long {at = at} {before = before} x h = ap length x.out ∙ length-paste before at x.line (length x.line) (omega (arith, x.fits)) (omega arith)

-- and other lines after it
one_more : {o : Outcome Request} {os : List (Outcome Request)} {at r t : ℕ} {before mid after : List ℕ} {m n k : Memory} → One o at before mid m n r
    → at + longest ≤ length before → Done os n k r mid after t → Done (o ∷ os) m k at before after t
one_more {os = os} {t = t} {mid = mid} {after = after} {n = n} {k = k} x h d =
    done_first x.answered x.out (omega (arith, x.fits)) (subst (λ (j : ℕ). Done os n k j mid after t) x.written d)

done_as : {os ps : List (Outcome Request)} {m n : Memory} {at r : ℕ} {before after : List ℕ} → os ≡ ps → Done ps m n at before after r → Done os m n at before after r
done_as {os} {ps} {m} {n} {at} {r} {before} {after} e d = subst (λ (q : List (Outcome Request)). Done q m n at before after r) (sym e) d

-- ---- the lines of a part

-- what the lines from an index on come to is what was done, and what those from `at` on come to
pub record Sofar (part : List ℕ) (from w : ℕ) (out₀ out : List ℕ) (m₀ m : Memory) (at written : ℕ) : Type 0 where
  pub within : at ≤ length part
  pub long : length out ≡ length out₀
  pub room : written + longest * (length part - at) ≤ length out
  pub rest : begun_in (drop from part) ≡ begun_in (drop at part)
  pub whole : (n : Memory) (after : List ℕ) (r : ℕ) → Done (read_as (ended_in (drop at part))) m n written out after r
      → Done (read_as (ended_in (drop from part))) m₀ n w out₀ after r

pub starts : (part : List ℕ) (from w : ℕ) (out : List ℕ) (m : Memory) → from ≤ length part → w + longest * (length part - from) ≤ length out
    → Sofar part from w out out m m from w
starts part from w out m h r = record { within = h; long = refl; room = r; rest = refl; whole = λ n after t d. d }

module _ {part : List ℕ} {from w : ℕ} {out₀ out : List ℕ} {m₀ m : Memory} {at written e : ℕ} (g : Sofar part from w out₀ out m₀ m at written) (q : e ≡ end_from 10 at part) where
  past : at ≤ e
  past = omega (arith, (end_within 10 at part g.within).0)

  -- there is room for the answer to a line
  pub room_left : e < length part → written + longest ≤ length out
  room_left l = omega (arith, g.room, past)

  -- the line is behind
  pub less_left : e < length part → length part - (e + 1) < length part - at
  less_left l = omega (arith, past)

  -- one line more
  pub goes_on : {line out' : List ℕ} {m' : Memory} {r : ℕ} → e < length part → line ≡ piece_from 10 at part → One (piece_request line) written out out' m m' r
      → Sofar part from w out₀ out' m₀ m' (e + 1) r
  goes_on {line} {out'} {m'} {r} l el x =
      let room = room_left l in
      let one : One (line_request (piece_from 10 at part)) written out out' m m' r = one_as (sym (ap piece_request el ∙ piece_line at part)) x in
      record {
        within = omega arith;
        long = one_long x room ∙ g.long;
        room = omega (arith, past, g.room, x.written, x.fits, one_long x room);
        rest = g.rest ∙ begun_next at part q g.within l;
        whole = λ n after t d. g.whole n after t (done_as (ap read_as (ended_next at part q g.within l)) (one_more one room d));
      }

  -- no newline is left
  pub ends : length part ≤ e → Going part from w out₀ out m₀ m (record { at = at; written = written })
  ends l =
      record {
        done = g.whole m out written (done_as (ap read_as (ended_none at part q g.within l)) (done_none m written out));
        within = g.within;
        rest = sym (g.rest ∙ begun_none at part q g.within l);
      }

-- ---- a part

-- bytes that fill the rest of a buffer are joined at its index
pub rest_filled : (buffer : List ℕ) (at : ℕ) (bytes : List ℕ) {room : List ℕ} {r : ℕ} → length buffer ≡ most_kept → at ≤ most_kept
    → r ≡ min (length bytes) (length (take (length buffer - at) (drop at buffer)))
    → room ≡ take r bytes ++ drop r (take (length buffer - at) (drop at buffer))
    → (at + r ≡ at + min (length bytes) (most_kept - at)) × (put_mid at (length buffer - at) buffer room ≡ joined_at buffer at bytes)
rest_filled buffer at bytes {room} {r} b h e w =
    let past = drop_all (length buffer - at) (drop at buffer) (omega (arith, length-drop at buffer)) in
    let n : r ≡ min (length bytes) (most_kept - at) = omega (arith, e, ap length (take_rest buffer at), length-drop at buffer) in
    (ap (λ (k : ℕ). at + k) n, rw (w, take_rest buffer at, past, ← n) (simp (append-nil, append_assoc, drop-drop)))

-- those that fill a buffer are joined at its start
all_filled : (buffer bytes : List ℕ) {r : ℕ} → length buffer ≡ most_kept → r ≡ min (length bytes) (length buffer)
    → (r ≡ 0 + min (length bytes) (most_kept - 0)) × (take r bytes ++ drop r buffer ≡ joined_at buffer 0 bytes)
all_filled buffer bytes {r} b e =
    let n : r ≡ min (length bytes) (most_kept - 0) = omega (arith, e, b) in
    (omega (arith, n), rw (← n) (simp zero-add))

-- what is joined to what is held
module _ (buffer bytes : List ℕ) {buffer' l : List ℕ} {n r : ℕ} (b : length buffer ≡ most_kept) (h : n ≤ most_kept) (er : r ≡ n + min (length bytes) (most_kept - n))
    (eb : buffer' ≡ joined_at buffer n bytes) (el : take n buffer ++ bytes ≡ l) where
  pub join_line : take r buffer' ≡ kept l
  join_line = ap₂ (λ (j : ℕ) (d : List ℕ). take j d) er eb ∙ joined_held buffer n bytes b h ∙ ap kept el

  pub join_length : length buffer' ≡ most_kept
  join_length = ap length eb ∙ length-paste buffer n bytes (min (length bytes) (most_kept - n)) (omega arith) (omega arith) ∙ b

  pub join_held : r ≡ length (kept l)
  join_held = sym (length-take-le r buffer' (omega (arith, join_length))) ∙ ap length join_line

buffer_more : (buffer : List ℕ) (n : ℕ) (l : List ℕ) (ps : List (List ℕ)) → 1 ≤ length ps → buffer_after buffer n (l ∷ ps) ≡ joined_at (joined_at buffer n l) 0 (unfinished ps)
unfolding buffer_after
buffer_more buffer n l [] h = absurd (omega arith)
buffer_more buffer n l (p ∷ ps) h = refl

module _ (part buffer : List ℕ) {buffer₁ p : List ℕ} {n e joined : ℕ} (b : length buffer ≡ most_kept) (h : n ≤ most_kept) (q : e ≡ end_from 10 0 part) (ep : p ≡ piece_from 10 0 part)
    (ej : joined ≡ n + min (length p) (most_kept - n)) (eb : buffer₁ ≡ joined_at buffer n p) where
  -- no newline ends a line
  pub part_begun : (m : Memory) (out : List ℕ) → length part ≤ e
      → Part n part buffer buffer₁ out out m m (record { taken = length part; written = 0; held = joined })
  unfolding onto finished unfinished buffer_after
  part_begun m out l =
      let all : cut 10 part ≡ p ∷ [] = (cut_end 10 0 part q (omega arith) l).0 ∙ ap (λ (x : List ℕ). x ∷ []) (sym ep) in
      let ps : pieces n buffer part ≡ (take n buffer ++ p) ∷ [] = ap (onto (take n buffer)) all in
      record {
        taken = refl;
        done = done_as (ap (λ (x : List (List ℕ)). read_as (finished x)) ps) (done_none m 0 out);
        held = join_held buffer p b h ej eb (sym (ap unfinished ps));
        line = join_line buffer p b h ej eb (sym (ap unfinished ps));
        bytes = eb ∙ sym (ap (buffer_after buffer n) all);
      }

  -- a newline ends the line that is held, others may follow, and another is begun
  pub part_ended : {buffer₂ out out₁ out₂ : List ℕ} {m m₁ m₂ : Memory} {w held : ℕ} {d : Reached} → e < length part → longest * length part ≤ length out
      → One (line_request (take joined buffer₁)) 0 out out₁ m m₁ w → Going part (e + 1) w out₁ out₂ m₁ m₂ d
      → held ≡ min (length (drop d.at part)) (length buffer₁) → buffer₂ ≡ take held (drop d.at part) ++ drop held buffer₁
      → Part n part buffer buffer₂ out out₂ m m₂ (record { taken = length part; written = d.written; held = held })
  unfolding onto
  part_ended {buffer₂} {out} {m = m} {m₂ = m₂} {d = d} l room one go eh eb₂ =
      let rest = cut 10 (drop (e + 1) part) in
      let some = cut_some 10 (drop (e + 1) part) in
      let all : cut 10 part ≡ p ∷ rest = cut_one 10 part q l ∙ ap (λ (x : List ℕ). x ∷ rest) (sym ep) in
      let ps : pieces n buffer part ≡ (take n buffer ++ p) ∷ rest = ap (onto (take n buffer)) all in
      let first : line_request (take joined buffer₁) ≡ line_request (take n buffer ++ p) = ap line_request (join_line buffer p b h ej eb refl) ∙ kept_same (take n buffer ++ p) in
      let begun : drop d.at part ≡ unfinished (pieces n buffer part) = go.rest ∙ sym (ap unfinished ps ∙ unfinished_cons (take n buffer ++ p) rest some) in
      let long = join_length buffer p b h ej eb refl in
      let filled = all_filled buffer₁ (drop d.at part) long eh in
      let joined₂ = eb₂ ∙ filled.1 in
      record {
        taken = refl;
        done = done_as (ap read_as (ap finished ps ∙ finished_cons (take n buffer ++ p) rest some)) (one_more (one_as (sym first) one) (omega arith) go.done);
        held = join_held buffer₁ (drop d.at part) long (omega arith) filled.0 joined₂ begun;
        line = join_line buffer₁ (drop d.at part) long (omega arith) filled.0 joined₂ begun;
        bytes = joined₂ ∙ ap₂ (λ (x y : List ℕ). joined_at x 0 y) eb begun
            ∙ sym (ap (buffer_after buffer n) all ∙ buffer_more buffer n p rest some ∙ ap (joined_at (joined_at buffer n p) 0) (sym (ap unfinished ps ∙ unfinished_cons (take n buffer ++ p) rest some)));
      }

-- ---- the parts of an input

map-append : (xs ys : List (List ℕ)) → read_as (xs ++ ys) ≡ read_as xs ++ read_as ys
map-append [] ys = refl
map-append (x ∷ xs) ys = ap (λ (q : List (Outcome Request)). line_request x ∷ q) (map-append xs ys)

-- one part more
pub taken_more : {l : Limits} {bytes before part buffer buffer' out out' : List ℕ} {m m' : Memory} {n : ℕ} {r : Fed} → Part n part buffer buffer' out out' m m' r
    → Taken l bytes before m (take n buffer) → Taken l (bytes ++ part) (before ++ take r.written out') m' (take r.held buffer')
taken_more {l} {bytes} {before} {part} {buffer} {buffer'} {out} {out'} {m} {m'} {n} {r} p t =
    let u = begun_in bytes in
    let ps = cut 10 part in
    let lines : read_as (ended_in (bytes ++ part)) ≡ read_as (ended_in bytes) ++ read_as (finished (pieces n buffer part)) =
    ap read_as (ended_append bytes part) ∙ map-append (ended_in bytes) (finished (onto u ps))
    ∙ ap (λ (q : List (Outcome Request)). read_as (ended_in bytes) ++ q) (sym (ap (λ (x : List ℕ). read_as (finished (onto x ps))) t.begun ∙ kept_lines u ps)) in
    record {
      played = subst (λ (q : List (Outcome Request)). Played l q (before ++ take r.written out') m') (sym lines)
          (played_more l (read_as (ended_in bytes)) (read_as (finished (pieces n buffer part))) t.played p.done);
      begun = p.line ∙ ap (λ (x : List ℕ). kept (unfinished (onto x ps))) t.begun ∙ kept_last u ps ∙ ap kept (sym (begun_append bytes part));
    }

-- ---- the end of an input

last_some : (l : List ℕ) → 1 ≤ length l → last_line l ≡ l ∷ []
unfolding last_line
last_some [] h = absurd (omega arith)
last_some (x ∷ xs) h = refl

-- nothing is held
pub none_held : (buffer : List ℕ) {n : ℕ} (m : Memory) (out : List ℕ) → n ≡ 0 → Done (read_as (last_line (take (min n most_kept) buffer))) m m 0 out out 0
unfolding last_line
none_held buffer {n} m out e =
    let none : min n most_kept ≡ 0 = omega arith in
    done_as (ap (λ (j : ℕ). read_as (last_line (take j buffer))) none) (done_none m 0 out)

-- a line is held
pub line_held : (buffer : List ℕ) {out out' : List ℕ} {m m' : Memory} {n k r : ℕ} → length buffer ≡ most_kept → (n ≡ 0 → ⊥) → k ≡ min n most_kept → longest ≤ length out
    → One (line_request (take k buffer)) 0 out out' m m' r → Done (read_as (last_line (take (min n most_kept) buffer))) m m' 0 out out' r
line_held buffer {out} {out'} {m} {m'} {n} {k} {r} b h ek l x =
    done_as (ap (λ (j : ℕ). read_as (last_line (take j buffer))) (sym ek) ∙ ap read_as (last_some (take k buffer) (omega (arith, length-take-le k buffer (omega arith)))))
    (one_more x (omega arith) (done_none m' r out'))

-- all lines of the input
pub played_all : {l : Limits} {bytes before held out out' : List ℕ} {m m' : Memory} {r : ℕ} → Taken l bytes before m held → Done (read_as (last_line held)) m m' 0 out out' r
    → Whole l bytes (before ++ take r out') m'
unfolding lines_of output last_state
played_all {l} {bytes} {before} {held} {out} {out'} {m} {m'} {r} t d =
    let lines : read_as (ended_in bytes ++ last_line (begun_in bytes)) ≡ read_as (ended_in bytes) ++ read_as (last_line held) =
    map-append (ended_in bytes) (last_line (begun_in bytes))
    ∙ ap (λ (q : List (Outcome Request)). read_as (ended_in bytes) ++ q) (sym (ap (λ (x : List ℕ). read_as (last_line x)) t.begun ∙ kept_last_line (begun_in bytes))) in
    let p = subst (λ (q : List (Outcome Request)). Played l q (before ++ take r out') m') (sym lines) (played_more l (read_as (ended_in bytes)) (read_as (last_line held)) t.played d) in
    record { bytes = p.output; state = p.demand.state; played = p }

-- ---- the beginning of an input

pub begun : {k m : Memory} (r : Answer) → Freshened 255 255 k m r → Begun m
unfolding cut finished unfinished kept
begun r c =
    let f = made c (omega arith) (omega arith) in
    record { memory = f.1; input = record { played = played_none f.1 (begins 255 255 r c f.0); begun = refl } }

-- ---- as the functions leave it

pub feeding : {part buffer buffer' out out' : List ℕ} {m m' : Memory} {h k n : ℕ} {r : Fed} → k ≡ min h most_kept → n ≡ taken_of part out
    → Part k (take n part) buffer buffer' out out' m m' r → Feeding h part buffer buffer' out out' m m' r
feeding {part} {buffer} {buffer'} {out} {out'} {m} {m'} {h} {k} {n} {r} ek en p =
    let all : Part (min h most_kept) (take (taken_of part out) part) buffer buffer' out out' m m' r =
    subst (λ (j : ℕ). Part j (take (taken_of part out) part) buffer buffer' out out' m m' r) ek (subst (λ (j : ℕ). Part k (take j part) buffer buffer' out out' m m' r) en p) in
    record { all = all; input = λ l bytes before t. taken_more all t }

-- there is no room
pub ends_short : (n : ℕ) (buffer out : List ℕ) (m : Memory) → length out < longest → Ending n buffer out out m m 0
ends_short n buffer out m h = record { short = λ l. (refl, refl, refl); done = λ l. absurd (omega arith); input = λ l. absurd (omega arith) }

-- there is
ends_done : {n r : ℕ} {buffer out out' : List ℕ} {m m' : Memory} → longest ≤ length out → Done (read_as (last_line (take (min n most_kept) buffer))) m m' 0 out out' r
    → Ending n buffer out out' m m' r
ends_done h d = record { short = λ l. absurd (omega arith); done = λ l. d; input = λ l k bytes before t. played_all t d }

pub ends_none : {n : ℕ} (buffer out : List ℕ) (m : Memory) → longest ≤ length out → n ≡ 0 → Ending n buffer out out m m 0
ends_none buffer out m h e = ends_done h (none_held buffer m out e)

pub ends_line : (buffer : List ℕ) {out out' : List ℕ} {m m' : Memory} {n k r : ℕ} → length buffer ≡ most_kept → (n ≡ 0 → ⊥) → k ≡ min n most_kept
    → longest ≤ length out → One (line_request (take k buffer)) 0 out out' m m' r → Ending n buffer out out' m m' r
ends_line buffer b h ek l x = ends_done l (line_held buffer b h ek l x)
