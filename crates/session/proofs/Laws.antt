-- What turns of the session pass on.
-- Assumes nothing.
use Prim.Native.Nat.{ℕ, ◌≤◌, min}
use native.Mathlib.Omega.{arith}
use mathlib.Core.List.{List, ◌++◌, append_assoc}
use mathlib.Core.Path.{◌≡◌, subst}
use lib.ListN.{take, length-take}
use Rattle.rules.specs.State.{Limits}
use Rattle.layout.specs.Carried.{Memory}
use Rattle.feed.specs.declared.Fed.{Fed}
use Rattle.feed.specs.Input.{unfinished, most_kept, kept, Taken}
use Rattle.feed.specs.Feeding.{pieces, taken_of, Feeding}
use Rattle.session.specs.declared.Line.{Line}
use Rattle.session.specs.Sessions.{Passed}

held_least : {n : ℕ} {part buffer buffer' out out' : List ℕ} {m m' : Memory} {r : Fed} → Feeding n part buffer buffer' out out' m m' r → r.held ≤ most_kept
unfolding kept
held_least {n} {part} {buffer} {out = out} f =
    let l = unfinished (pieces (min n most_kept) buffer (take (taken_of part out) part)) in
    omega (arith, f.all.held, length-take most_kept l)

pub passed_fed : {part buffer' out out' : List ℕ} {line : Line} {m m' : Memory} {r : Fed} → Feeding line.held part line.bytes buffer' out out' m m' r
    → Passed line (record { bytes = buffer'; held = r.held }) m m'
passed_fed {part} {buffer'} {out} {out'} {m' = m'} {r} f =
    let least : r.held ≡ min r.held most_kept = omega (arith, held_least f) in
    let new = take (taken_of part out) part in
    let text = take r.written out' in
    record { goes = λ l bytes before t. (new, (text, subst (λ (k : ℕ). Taken l (bytes ++ new) (before ++ text) m' (take k buffer')) least (f.input l bytes before t))) }

pub passed_then : {a b c : Line} {m₀ m₁ m₂ : Memory} → Passed a b m₀ m₁ → Passed b c m₁ m₂ → Passed a c m₀ m₂
passed_then {a} {b} {c} {m₀} {m₁} {m₂} f g = record { goes = go }
  where
    go : (l : Limits) (bytes before : List ℕ) → Taken l bytes before m₀ (take (min a.held most_kept) a.bytes)
        → (part : List ℕ) × ((text : List ℕ) × Taken l (bytes ++ part) (before ++ text) m₂ (take (min c.held most_kept) c.bytes))
    go l bytes before t =
        let x = f.goes l bytes before t in
        let y = g.goes l (bytes ++ x.0) (before ++ x.1.0) x.1.1 in
        (x.0 ++ y.0, (x.1.0 ++ y.1.0, rw (← append_assoc bytes x.0 y.0, ← append_assoc before x.1.0 y.1.0) y.1.1))
