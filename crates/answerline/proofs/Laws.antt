-- The answer lines, and how one is put into a buffer.
-- Assumes nothing.
use Prim.Native.Nat.{ℕ, zero, suc, ◌+◌, ◌-◌, ◌/◌, ◌%◌, ◌≤◌}
use native.Mathlib.Omega.{arith}
use mathlib.Core.Bool.{Bool, true, false, cond}
use mathlib.Core.List.{List, [], ◌∷◌, ◌++◌, append-nil, append_assoc}
use mathlib.Core.Path.{◌≡◌, refl, ap, ◌∙◌}
use lib.Dec.{ltb}
use lib.ListN.{length, take, drop, replicate, length-append, length-drop, length-replicate}
use lib.Seq.{take-length, take_all, drop_at, drop-drop}
use borrow.Rule.Slice.PartMut.{put_mid}
use Rattle.std.proofs.lemmas.List.{take_rest, drop_all}
use borrow.Author.Tests.{le-leb}
use Rattle.errno.specs.Ascii.{ascii}
use Rattle.errno.specs.Errno.{number_of, name_of, cases}
use Rattle.errno.specs.declared.Errno.{Errno}
use Rattle.errno.specs.declared.Errno.TheVariants.{Enoent, Ebusy, Eexist, Enodev, Einval, Enospc, Eaddrinuse, Eaddrnotavail}
use Rattle.rules.specs.declared.Moved.{Moved}
use Rattle.rules.specs.declared.Moved.TheVariants.{Idle, Released, BoundHost, BoundPassthrough}
use Rattle.movednames.specs.Moves.{moved_word}
use Rattle.decimal.specs.Decimal.{decimal_in, decimal, most}
use Rattle.answerline.specs.Written.{Written}
use Rattle.answerline.specs.declared.Said.{Said}
use Rattle.answerline.specs.declared.Said.TheVariants.{Done, Refused, Did, Used}
use Rattle.answerline.specs.Answers.{ended, name_in, command_line, move_line, sweep_line, said_line, longest, Put}

-- ---- what is written

-- there is room, and the line is written from the index on
pub put_line : {l b part : List ℕ} {at r : ℕ} → Written l (take (length b - at) (drop at b)) part r → at + longest ≤ length b
    → Put l at b (put_mid at (length b - at) b part) (at + r)
put_line {l} {b} {at = at} w h =
    let room = le-leb (at + longest) (length b) h in
    let past = drop_all (length b - at) (drop at b) (omega (arith, length-drop at b)) in
    record { bytes = rw (room, w.shown, take_rest b at, past, take-length l) (simp (append-nil, append_assoc, drop-drop)); next = rw (room, w.many) }

-- ---- the texts

-- digits, and zeros before them
pub digits_of : {b : List ℕ} (from n : ℕ) → (b ≡ replicate from 0 ++ decimal n) × (from + length (decimal n) ≡ most)
    → (take (most - from) (drop from b) ≡ decimal n) × (most ≤ length b)
digits_of {b} from n (e, l) =
    let zeros : List ℕ = replicate from 0 in
    let long : length zeros ≡ from = length-replicate from 0 in
    let digits : drop from b ≡ decimal n = ap (drop from) e ∙ drop_at zeros (decimal n) from long in
    (rw digits (take_all (most - from) (decimal n) (omega arith)), omega (arith, ap length e, length-append zeros (decimal n)))

-- the line of a refusal, whose name is at most 13 long
pub refusal : (e : Errno) → (command_line (number_of e) ≡ ended (ascii "refused " ++ name_of e)) × (length (name_of e) ≤ 13)
unfolding command_line name_in cases number_of name_of ascii
refusal Enoent = (refl, omega arith)
refusal Ebusy = (refl, omega arith)
refusal Eexist = (refl, omega arith)
refusal Enodev = (refl, omega arith)
refusal Einval = (refl, omega arith)
refusal Enospc = (refl, omega arith)
refusal Eaddrinuse = (refl, omega arith)
refusal Eaddrnotavail = (refl, omega arith)

-- the word of a move is at most 11 long
pub word_short : (m : Moved) → length (moved_word m) ≤ 11
unfolding moved_word ascii
word_short Idle = omega arith
word_short Released = omega arith
word_short BoundHost = omega arith
word_short BoundPassthrough = omega arith

-- ---- no line is longer than the longest

decimal_short : (k n : ℕ) → length (decimal_in k n) ≤ suc k
unfolding decimal_in
decimal_short zero n = omega arith
decimal_short (suc k) n = go (ltb n 10) (decimal_short k (n / 10))
  where
    go : (b : Bool) → length (decimal_in k (n / 10)) ≤ suc k
        → length (cond b ((48 + n % 10) ∷ []) (decimal_in k (n / 10) ++ (48 + n % 10) ∷ [])) ≤ suc (suc k)
    go true h = omega arith
    go false h = omega (arith, length-append (decimal_in k (n / 10)) ((48 + n % 10) ∷ []))

used_short : (n : ℕ) → length (decimal n) ≤ 10
unfolding decimal
used_short n = decimal_short 9 n

ended_long : (x y : List ℕ) → length (ended (x ++ y)) ≡ length x + length y + 1
ended_long x y = length-append (x ++ y) (10 ∷ []) ∙ ap (λ (n : ℕ). n + 1) (length-append x y)

pub said_short : (r : Said) → length (said_line r) ≤ longest
unfolding said_line command_line move_line sweep_line ascii
said_short Done = omega arith
said_short (Refused e) = omega (arith, ap length (refusal e).0, ended_long (ascii "refused ") (name_of e), (refusal e).1)
said_short (Did m) = omega (arith, ended_long (ascii "ok ") (moved_word m), word_short m)
said_short (Used n) = omega (arith, ended_long (ascii "ok ") (decimal n), used_short n)
