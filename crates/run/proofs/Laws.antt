-- Laws of carrying out a list of requests: one request, and the list from an index on.
-- Assumes nothing.
use Prim.Native.Nat.{ℕ, zero, suc, ◌+◌, ◌-◌, ◌≤◌, ◌<◌}
use native.Mathlib.Nat.{zero-add, add-zero}
use native.Mathlib.Omega.{arith}
use mathlib.Core.Bool.{Bool, true, false, cond, ◌&&◌, true≢false}
use mathlib.Core.List.{List, [], ◌∷◌, ◌++◌, append-nil, append_assoc}
use mathlib.Core.Path.{◌≡◌, refl, sym, ap, ap₂, subst, ◌∙◌}
use lib.Dec.{leb}
use lib.ListN.{length, get_or, set, take, drop, length-set, length-drop, take-append-drop}
use lib.Seq.{append_snoc, length-take-le, take_all, take-suc-set, drop-set-lt, drop-drop}
use borrow.Author.Tests.{leb-true, le-leb}
use Rattle.std.specs.Prelude.{Some, None}
use Rattle.errno.specs.Outcome.{granted, refused}
use Rattle.errno.specs.declared.Errno.TheVariants.{Einval}
use Rattle.rules.specs.State.{Limits, State, fresh}
use Rattle.rules.specs.Commands.{Answer, answered, errno_of}
use Rattle.layout.specs.Carried.{Memory, read, memory_after, Carried}
use Rattle.setup.specs.Fresh.{start, fresh_memory}
use Rattle.model.specs.Steps.{Step, Command, after_all}
use Rattle.model.specs.Steps as Steps
use Rattle.calls.specs.Calls.{Call, Chain, begins, goes_on}
use Rattle.calls.proofs.Chains.{called, reached, demanded}
use Rattle.fields.specs.Fields.{half_at, id_of, kind_of}
use Rattle.encoding.specs.Encoding.{Request, command, sweep, size_of, command_of, request_of, whole, decode}
use Rattle.rules.specs.declared.Id.{Id}
use Rattle.rules.specs.declared.Kind.{Kind}
use Rattle.request.proofs.Laws.{as_asked, is_command, is_sweep}
use Rattle.request.specs.Requests.{steps_for, Stepped}
use Rattle.run.specs.Running.{steps_of, leaves_all, answer_bytes, GoesOn, CarriedOut, Run}

-- ---- one request

-- a part up to the end is all that follows
pub payload : (k : ℕ) (b : List ℕ) → take (length b - k) (drop k b) ≡ drop k b
payload k b = take_all (length b - k) (drop k b) (omega (arith, length-drop k b))

-- the command of the parts that were read
pub of_parts : (b : List ℕ) {k : Kind} {i : Id} {c : Command} {m n : Memory} (a : Answer) {r : ℕ} → get_or b 0 0 ≤ 8 → k ≡ kind_of (get_or b 1 0)
    → i ≡ id_of (take (length b - 2) (drop 2 b)) → c ≡ command_of (get_or b 0 0) k i (take (length b - 20) (drop 20 b)) → r ≡ answered a
    → Stepped (command c) m n (answered a) → Stepped (request_of b) m n r
of_parts b {k} {i} {c} {m} {n} a {r} h ek ei ec er s =
    let id : i ≡ id_of (drop 2 b) = ei ∙ ap id_of (payload 2 b) in
    let parts : c ≡ command_of (get_or b 0 0) (kind_of (get_or b 1 0)) (id_of (drop 2 b)) (drop 20 b) = ec ∙ (λ j. command_of (get_or b 0 0) (ek j) (id j) (payload 20 b j)) in
    subst (Stepped (request_of b) m n) (sym er) (as_asked (is_command b h ∙ ap command (sym parts)) s)

-- the sweep of the budget that was read
pub of_budget : (b : List ℕ) {n : ℕ} → get_or b 0 0 ≡ 10 → n ≡ half_at (take (length b - 2) (drop 2 b)) 0 → request_of b ≡ sweep n
of_budget b e f = is_sweep b e ∙ ap sweep (sym (f ∙ ap (λ (l : List ℕ). half_at l 0) (payload 2 b)))

-- ---- the steps of a list

-- a step has a header
size_least : (b : List ℕ) → 20 ≤ size_of b
unfolding size_of
size_least b = omega arith

-- a whole step lies within the list
whole_fits : (b : List ℕ) → whole b ≡ true → size_of b ≤ length b
unfolding whole
whole_fits b e = go (leb 20 (length b)) (leb (size_of b) (length b)) refl e
  where
    go : (s t : Bool) → leb (size_of b) (length b) ≡ t → cond s t false ≡ true → size_of b ≤ length b
    go true true f e = leb-true (size_of b) (length b) f
    go true false f e = absurd (true≢false (sym e))
    go false t f e = absurd (true≢false (sym e))

decode_whole : (k : ℕ) (b : List ℕ) → whole b ≡ true → decode (suc k) b ≡ request_of (take (size_of b) b) ∷ decode k (drop (size_of b) b)
unfolding decode
decode_whole k b e = ap (λ (t : Bool). cond t (request_of (take (size_of b) b) ∷ decode k (drop (size_of b) b)) []) e

decode_none : (k : ℕ) (b : List ℕ) → whole b ≡ false → decode k b ≡ []
unfolding decode
decode_none zero b e = refl
decode_none (suc k) b e = ap (λ (t : Bool). cond t (request_of (take (size_of b) b) ∷ decode k (drop (size_of b) b)) []) e

-- a whole step of this size lies at an index
pub record Left (bytes : List ℕ) (at size : ℕ) : Type 0 where
  pub found : whole (drop at bytes) ≡ true
  pub sized : size ≡ size_of (drop at bytes)
  pub least : 20 ≤ size
  pub within : at + size ≤ length bytes

pub part_long : {bytes : List ℕ} {at size : ℕ} → Left bytes at size → length (take (at + size - at) (drop at bytes)) ≡ size
part_long {bytes} {at} {size} f =
    let size_is : at + size - at ≡ size = omega arith in
    length-take-le (at + size - at) (drop at bytes) (omega (arith, f.within, length-drop at bytes)) ∙ size_is

pub step_left : (bytes : List ℕ) (at size : ℕ) → Some size ≡ cond (whole (drop at bytes)) (Some (size_of (drop at bytes))) None → at ≤ length bytes
    → Left bytes at size
step_left bytes at size is l = go (whole (drop at bytes)) refl is
  where
    go : (t : Bool) → whole (drop at bytes) ≡ t → Some size ≡ cond t (Some (size_of (drop at bytes))) None → Left bytes at size
    go true e f =
        let g : size ≡ size_of (drop at bytes) = cc in
        record {
          found = e;
          sized = g;
          least = omega (arith, size_least (drop at bytes));
          within = omega (arith, whole_fits (drop at bytes) e, length-drop at bytes);
        }
    go false e f = cc

none_left : (bytes : List ℕ) (at : ℕ) → None ≡ cond (whole (drop at bytes)) (Some (size_of (drop at bytes))) None → whole (drop at bytes) ≡ false
none_left bytes at is = go (whole (drop at bytes)) refl is
  where
    go : (t : Bool) → whole (drop at bytes) ≡ t → None ≡ cond t (Some (size_of (drop at bytes))) None → whole (drop at bytes) ≡ false
    go true e f = cc
    go false e f = e

-- ---- a run: what the whole list comes to is what was done in n steps, and what the rest from the index on comes to

pub record Going (bytes old new : List ℕ) (k m : Memory) (at n : ℕ) : Type 0 where
  pub reached : at ≤ length bytes
  pub room : n ≤ length old
  pub long : length new ≡ length old
  pub number : length (decode (length old) bytes) ≡ n + length (decode (length old - n) (drop at bytes))
  pub memory : leaves_all (decode (length old) bytes) k ≡ leaves_all (decode (length old - n) (drop at bytes)) m
  pub answers : answer_bytes (decode (length old) bytes) (read k) ≡ take n new ++ answer_bytes (decode (length old - n) (drop at bytes)) (read m)
  pub rest : drop n new ≡ drop n old
  pub done : List Step
  pub calls : GoesOn k m done
  pub steps : steps_of (decode (length old) bytes) (read k) ≡ done ++ steps_of (decode (length old - n) (drop at bytes)) (read m)

-- no call
pub stays : (m : Memory) → GoesOn m m []
unfolding GoesOn
stays m l xs rs c =
    ([], subst (λ (q : List Step). Chain l m q (rs ++ [])) (sym (append-nil xs)) (subst (Chain l m xs) (sym (append-nil rs)) c))

-- one call more
pub further : (m n k : Memory) (xs ys : List Step) {rs : List ℕ} → GoesOn m n xs → Call n k ys rs → GoesOn m k (xs ++ ys)
unfolding GoesOn
further m n k xs ys {rs} h c l zs ts d =
    let g = h l zs ts d in
    let e = goes_on g.1 c in (
      g.0 ++ rs,
      subst (λ (q : List Step). Chain l k q (ts ++ (g.0 ++ rs))) (append_assoc zs xs ys)
          (subst (Chain l k ((zs ++ xs) ++ ys)) (append_assoc ts g.0 rs) e),
    )

pub starts : (bytes old : List ℕ) (m : Memory) → Going bytes old old m m 0 0
starts bytes old m =
    let all : length old - 0 ≡ length old = omega arith in
    record {
      reached = omega arith;
      room = omega arith;
      long = refl;
      number = rw (all, zero-add);
      memory = rw all;
      answers = rw all;
      rest = refl;
      done = [];
      calls = stays m;
      steps = rw all;
    }

module _ {bytes old new : List ℕ} {k m : Memory} {at n : ℕ} (g : Going bytes old new k m at n) where
  -- one request more
  pub goes_on_lem : (size r : ℕ) (o : Memory) → Left bytes at size → n < length old → Stepped (request_of (take (at + size - at) (drop at bytes))) m o r
      → Going bytes old (set new n r) k o (at + size) (n + 1)
  unfolding leaves_all answer_bytes steps_of
  goes_on_lem size r o f h c =
      let b = drop at bytes in
      let x = request_of (take (at + size - at) b) in
      let i = length old - (n + 1) in
      let ys = decode i (drop (at + size) bytes) in
      let more : length old - n ≡ suc i = omega arith in
      let part : size ≡ at + size - at = omega arith in
      let next : suc n ≡ n + 1 = omega arith in
      let turn : decode (length old - n) b ≡ x ∷ ys =
      ap (λ (j : ℕ). decode j b) more ∙ decode_whole i b f.found ∙ ap (λ (z : ℕ). request_of (take z b) ∷ decode i (drop z b)) (sym f.sized)
      ∙ ap₂ (λ (z : ℕ) (d : List ℕ). request_of (take z b) ∷ decode i d) part (drop-drop size at bytes) in
      let count : n + length (x ∷ ys) ≡ n + 1 + length ys = omega arith in
      let state : after_all (steps_for x (read m)) (read m) ≡ read o = sym (called c.call.1).state in
      record {
        reached = f.within;
        room = omega arith;
        long = rw length-set g.long;
        number = g.number ∙ ap (λ (q : List Request). n + length q) turn ∙ count;
        memory = g.memory ∙ ap (λ (q : List Request). leaves_all q m) turn ∙ ap (leaves_all ys) (sym c.memory);
        answers =
            g.answers ∙ ap (λ (q : List Request). take n new ++ answer_bytes q (read m)) turn
            ∙ ap₂ (λ (v : ℕ) (t : State). take n new ++ (v ∷ answer_bytes ys t)) (sym c.answer) state
            ∙ sym (append_snoc (take n new) r (answer_bytes ys (read o)))
            ∙ ap (λ (q : List ℕ). q ++ answer_bytes ys (read o)) (sym (take-suc-set new n r (omega (arith, g.long))))
            ∙ ap (λ (j : ℕ). take j (set new n r) ++ answer_bytes ys (read o)) next;
        rest = drop-set-lt (n + 1) new n r (omega arith) ∙ sym (drop-drop 1 n new) ∙ ap (drop 1) g.rest ∙ drop-drop 1 n old;
        done = g.done ++ steps_for x (read m);
        calls = further k m o g.done (steps_for x (read m)) g.calls c.call.1;
        steps =
            g.steps ∙ ap (λ (q : List Request). g.done ++ steps_of q (read m)) turn
            ∙ ap (λ (t : State). g.done ++ (steps_for x (read m) ++ steps_of ys t)) state
            ∙ sym (append_assoc g.done (steps_for x (read m)) (steps_of ys (read o)));
      }

  -- nothing is left to do
  ends : decode (length old - n) (drop at bytes) ≡ [] → CarriedOut bytes old new k m n
  unfolding leaves_all answer_bytes steps_of
  ends e =
      let xs = decode (length old) bytes in
      let given : answer_bytes xs (read k) ≡ take n new = g.answers ∙ ap (λ (q : List Request). take n new ++ answer_bytes q (read m)) e ∙ append-nil (take n new) in
      let steps : steps_of xs (read k) ≡ g.done = g.steps ∙ ap (λ (q : List Request). g.done ++ steps_of q (read m)) e ∙ append-nil g.done in
      record {
        number = sym (g.number ∙ ap (λ (q : List Request). n + length q) e ∙ add-zero n);
        answers = sym (take-append-drop n new) ∙ ap₂ ◌++◌ (sym given) g.rest;
        memory = sym (g.memory ∙ ap (λ (q : List Request). leaves_all q m) e);
        calls = subst (GoesOn k m) (sym steps) g.calls;
      }

  -- no whole step is left
  pub ends_early : None ≡ cond (whole (drop at bytes)) (Some (size_of (drop at bytes))) None → CarriedOut bytes old new k m n
  ends_early is = ends (decode_none (length old - n) (drop at bytes) (none_left bytes at is))

  -- no room is left
  pub ends_full : {r : ℕ} → length old ≤ n → r ≡ n → CarriedOut bytes old new k m r
  unfolding decode
  ends_full h e =
      let none : length old - n ≡ 0 = omega arith in
      subst (CarriedOut bytes old new k m) (sym e) (ends (ap (λ (i : ℕ). decode i (drop at bytes)) none))

-- ---- a run on a fresh record of limits that are bytes

pub made : {a d : ℕ} {m n : Memory} {r : Answer} → Carried (start a d) (λ k. fresh_memory a d) m n r → a < 256 → d < 256
    → (answered r ≡ 0) × (n ≡ fresh_memory a d)
unfolding start errno_of memory_after
made {a} {d} {m} {n} {r} c ha hd =
    let good : (leb a 255 && leb d 255) ≡ true = ap₂ ◌&&◌ (le-leb a 255 (omega arith)) (le-leb d 255 (omega arith)) in
    let s : State = fresh (record { adapter = a; domain = d }) in (
      c.answer ∙ ap (λ (b : Bool). errno_of (cond b (granted s) (refused Einval))) good,
      c.bytes ∙ ap (λ (b : Bool). memory_after m (cond b (granted s) (refused Einval)) (fresh_memory a d)) good,
    )

pub runs : {a d : ℕ} {k m n : Memory} {r : Answer} {bytes before after : List ℕ} {t : ℕ} → Carried (start a d) (λ k. fresh_memory a d) k m r
    → CarriedOut bytes before after m n t → a < 256 → d < 256 → Run (record { adapter = a; domain = d }) bytes before after n t
unfolding GoesOn after_all
runs {a} {d} {k} {m} {n} {r} {bytes} {before} {after} {t} c h ha hd =
    let l : Limits = record { adapter = a; domain = d } in
    let f = made c ha hd in
    let first = begins a d r c f.0 in
    let state : read m ≡ fresh l = (reached first).state in
    let xs = decode (length before) bytes in
    let went = h.calls l [] [] first in
    let steps : steps_of xs (read m) ≡ steps_of xs (fresh l) = ap (steps_of xs) state in
    let there : Chain l n (steps_of xs (fresh l)) went.0 = subst (λ (q : List Step). Chain l n q went.0) steps went.1 in
    let chain : Chain l n (steps_of xs (fresh l)) (Steps.answers (steps_of xs (fresh l)) (fresh l)) = subst (Chain l n (steps_of xs (fresh l))) (reached there).said there in
    record {
      number = h.number;
      answers = h.answers ∙ ap (λ (s : State). answer_bytes xs s ++ drop t before) state;
      memory = h.memory ∙ ap (leaves_all xs) f.1;
      chain = chain;
      demand = demanded chain;
    }
