-- Lines carried out one after the other, and demand 3 of them.
-- Assumes nothing.
use Prim.Native.Nat.{ℕ, ◌+◌, ◌≤◌}
use native.Mathlib.Nat.{add-zero}
use native.Mathlib.Omega.{arith}
use mathlib.Core.List.{List, [], ◌∷◌, ◌++◌, map, append_assoc}
use mathlib.Core.Path.{◌≡◌, refl, sym, ap, ap₂, subst, ◌∙◌}
use lib.ListN.{length, take, drop, length-append, take-append-drop}
use lib.Seq.{paste, take-length, take_at, drop-drop, take-paste, drop-paste}
use Rattle.errno.specs.Outcome.{Outcome, granted, refused}
use Rattle.rules.specs.State.{Limits, State, fresh, apid, apqi}
use Rattle.rules.specs.Sweeps.{swept}
use Rattle.rules.specs.Commands.{errno_of}
use Rattle.layout.specs.Carried.{Memory, read}
use Rattle.setup.specs.Fresh.{fresh_memory}
use Rattle.model.specs.Steps.{Command, Step, commands_of, after, after_all, answers, rule}
use Rattle.model.specs.Steps as Steps
use Rattle.model.specs.Sweeps.{sweep_steps}
use Rattle.model.specs.Model.{start, replies}
use Rattle.model.proofs.Sweeping.{after_append, answers_append, answers_moves}
use Rattle.calls.specs.Calls.{Chain}
use Rattle.calls.proofs.Chains.{reached, demanded}
use Rattle.encoding.specs.Encoding.{Request, command, move, sweep}
use Rattle.request.specs.Requests.{steps_for, leaves}
use Rattle.run.specs.Running.{GoesOn, steps_of, leaves_all}
use Rattle.run.proofs.Laws.{stays}
use Rattle.answerline.specs.Answers.{command_line}
use Rattle.consoleline.specs.Answering.{answer_to, answer_for, steps_in, after_for, leaves_in, Answered}
use Rattle.feed.specs.Input.{answers_to, joined, output_of, requests_of, steps_of_lines, commands_in, pick, to_commands, Played}
use Rattle.feed.specs.Feeding.{Done}

-- ---- one line in front of others

leaves_cons : (o : Outcome Request) (os : List (Outcome Request)) (m : Memory) → leaves_all (requests_of (o ∷ os)) m ≡ leaves_all (requests_of os) (leaves_in o m)
unfolding requests_of leaves_all leaves_in
leaves_cons (granted x) os m = refl
leaves_cons (refused e) os m = refl

steps_cons : (o : Outcome Request) (os : List (Outcome Request)) (s : State) → steps_of_lines (o ∷ os) s ≡ steps_in o s ++ steps_of_lines os (after_for o s)
unfolding requests_of steps_of steps_in after_for after_all
steps_cons (granted x) os s = refl
steps_cons (refused e) os s = refl

goes_then : (m n k : Memory) (xs ys : List Step) → GoesOn m n xs → GoesOn n k ys → GoesOn m k (xs ++ ys)
unfolding GoesOn
goes_then m n k xs ys g h l zs ts c =
    let d = g l zs ts c in
    let e = h l (zs ++ xs) (ts ++ d.0) d.1 in (
      d.0 ++ e.0,
      subst (λ (q : List Step). Chain l k q (ts ++ (d.0 ++ e.0))) (append_assoc zs xs ys)
          (subst (Chain l k ((zs ++ xs) ++ ys)) (append_assoc ts d.0 e.0) e.1),
    )

pub done_none : (m : Memory) (at : ℕ) (before : List ℕ) → Done [] m m at before before at
unfolding answers_to joined requests_of leaves_all steps_of
done_none m at before =
    record { written = sym (add-zero at); out = sym (take-append-drop at before); memory = refl; calls = stays m }

pub done_first : {o : Outcome Request} {os : List (Outcome Request)} {m n k : Memory} {line before mid after : List ℕ} {at r : ℕ} → Answered o m n line
    → mid ≡ paste before at line (length line) → at + length line ≤ length before → Done os n k (at + length line) mid after r → Done (o ∷ os) m k at before after r
unfolding answers_to joined
done_first {o} {os} {m} {n} {k} {line} {before} {mid} {after} {at} {r} a e h d =
    let rest = output_of os (read n) in
    let text : output_of (o ∷ os) (read m) ≡ line ++ rest = ap₂ (λ (x : List ℕ) (s : State). x ++ output_of os s) (sym a.answer) (sym a.state) in
    let head : take (at + length line) mid ≡ take at before ++ line =
    ap (take (at + length line)) e ∙ take-paste before at line (length line) (omega arith) (omega arith) ∙ ap (λ (x : List ℕ). take at before ++ x) (take-length line) in
    let past : at + length line + length rest ≡ r = sym d.written in
    let tail : drop r mid ≡ drop r before =
    ap (λ (j : ℕ). drop j mid) (sym past) ∙ sym (drop-drop (length rest) (at + length line) mid)
    ∙ ap (drop (length rest)) (ap (drop (at + length line)) e ∙ drop-paste before at line (length line) (omega arith) (omega arith))
    ∙ drop-drop (length rest) (at + length line) before ∙ ap (λ (j : ℕ). drop j before) past in
    record {
      written = omega (arith, d.written, ap length text, length-append line rest);
      out = d.out ∙ ap₂ (λ (x y : List ℕ). x ++ (rest ++ y)) head tail ∙ append_assoc (take at before) line (rest ++ drop r before)
          ∙ ap (λ (x : List ℕ). take at before ++ x) (sym (append_assoc line rest (drop r before)) ∙ ap (λ (x : List ℕ). x ++ drop r before) (sym text));
      memory = d.memory ∙ ap (leaves_all (requests_of os)) a.memory ∙ sym (leaves_cons o os m);
      calls =
          subst (GoesOn m k) (ap (λ (s : State). steps_in o (read m) ++ steps_of_lines os s) a.state ∙ sym (steps_cons o os (read m)))
          (goes_then m n k (steps_in o (read m)) (steps_of_lines os (read n)) a.calls d.calls);
    }

-- ---- lines after lines

requests_append : (xs ys : List (Outcome Request)) → requests_of (xs ++ ys) ≡ requests_of xs ++ requests_of ys
unfolding requests_of
requests_append [] ys = refl
requests_append (granted x ∷ xs) ys = ap (λ (r : List Request). x ∷ r) (requests_append xs ys)
requests_append (refused e ∷ xs) ys = requests_append xs ys

leaves_append : (xs ys : List Request) (m : Memory) → leaves_all (xs ++ ys) m ≡ leaves_all ys (leaves_all xs m)
unfolding leaves_all
leaves_append [] ys m = refl
leaves_append (x ∷ xs) ys m = leaves_append xs ys (leaves x m)

-- the state after lines
abbrev state_after : List (Outcome Request) → State → State
state_after os s = after_all (steps_of_lines os s) s

state_cons : (o : Outcome Request) (os : List (Outcome Request)) (s : State) → state_after (o ∷ os) s ≡ state_after os (after_for o s)
unfolding after_for
state_cons o os s = ap (λ (xs : List Step). after_all xs s) (steps_cons o os s) ∙ after_append (steps_in o s) (steps_of_lines os (after_for o s)) s

steps_append : (xs ys : List (Outcome Request)) (s : State) → steps_of_lines (xs ++ ys) s ≡ steps_of_lines xs s ++ steps_of_lines ys (state_after xs s)
unfolding requests_of steps_of after_all
steps_append [] ys s = refl
steps_append (x ∷ xs) ys s =
    steps_cons x (xs ++ ys) s ∙ ap (λ (l : List Step). steps_in x s ++ l) (steps_append xs ys (after_for x s))
    ∙ sym (append_assoc (steps_in x s) (steps_of_lines xs (after_for x s)) (steps_of_lines ys (state_after xs (after_for x s))))
    ∙ ap₂ (λ (l : List Step) (t : State). l ++ steps_of_lines ys t) (sym (steps_cons x xs s)) (sym (state_cons x xs s))

output_append : (xs ys : List (Outcome Request)) (s : State) → output_of (xs ++ ys) s ≡ output_of xs s ++ output_of ys (state_after xs s)
unfolding answers_to joined requests_of steps_of after_all
output_append [] ys s = refl
output_append (x ∷ xs) ys s =
    ap (λ (l : List ℕ). answer_for x s ++ l) (output_append xs ys (after_for x s) ∙ ap (λ (t : State). output_of xs (after_for x s) ++ output_of ys t) (sym (state_cons x xs s)))
    ∙ sym (append_assoc (answer_for x s) (output_of xs (after_for x s)) (output_of ys (state_after (x ∷ xs) s)))

-- ---- the answers to commands are the reference model's

commands_append : (xs ys : List Step) → commands_of (xs ++ ys) ≡ commands_of xs ++ commands_of ys
unfolding commands_of
commands_append [] ys = refl
commands_append (Steps.command c ∷ xs) ys = ap (λ (l : List Command). c ∷ l) (commands_append xs ys)
commands_append (Steps.move a d ∷ xs) ys = commands_append xs ys

moves_commands : (f g : ℕ → ℕ) (qs : List ℕ) → commands_of (map (λ q. Steps.move (f q) (g q)) qs) ≡ []
unfolding commands_of
moves_commands f g [] = refl
moves_commands f g (q ∷ qs) = moves_commands f g qs

commands_are : (os : List (Outcome Request)) (s : State) → commands_of (steps_of_lines os s) ≡ commands_in os
unfolding requests_of steps_of steps_for steps_in after_for after_all commands_of commands_in sweep_steps
commands_are [] s = refl
commands_are (granted (command c) ∷ os) s = ap (λ (l : List Command). c ∷ l) (commands_are os (after_for (granted (command c)) s))
commands_are (granted (move a d) ∷ os) s = commands_are os (after_for (granted (move a d)) s)
commands_are (granted (sweep b) ∷ os) s =
    commands_append (sweep_steps b s) (steps_of_lines os (after_for (granted (sweep b)) s))
    ∙ ap₂ (λ (x y : List Command). x ++ y) (moves_commands apid apqi (swept b s)) (commands_are os (after_for (granted (sweep b)) s))
commands_are (refused e ∷ os) s = commands_are os s

answers_are : (os : List (Outcome Request)) (s : State) → to_commands os (answers_to os s) ≡ map command_line (answers (steps_of_lines os s) s)
unfolding requests_of steps_of steps_for steps_in answers after_for after after_all answers_to answer_for answer_to to_commands pick
answers_are [] s = refl
answers_are (granted (command c) ∷ os) s =
    ap (λ (l : List (List ℕ)). command_line (errno_of (rule c s)) ∷ l) (answers_are os (after_for (granted (command c)) s))
answers_are (granted (move a d) ∷ os) s = answers_are os (after_for (granted (move a d)) s)
answers_are (granted (sweep b) ∷ os) s =
    let t = after_for (granted (sweep b)) s in
    answers_are os t
    ∙ sym (ap (map command_line) (answers_append (sweep_steps b s) (steps_of_lines os t) s ∙ ap (λ (l : List ℕ). l ++ answers (steps_of_lines os t) t) (answers_moves b s s)))
answers_are (refused e ∷ os) s = answers_are os s

-- what follows from a chain
played_by : (l : Limits) (os : List (Outcome Request)) {out : List ℕ} {m : Memory} {rs : List ℕ} → out ≡ output_of os (fresh l)
    → m ≡ leaves_all (requests_of os) (fresh_memory l.adapter l.domain) → Chain l m (steps_of_lines os (fresh l)) rs → Played l os out m
played_by l os {out} {m} eo em c =
    let chain : Chain l m (steps_of_lines os (fresh l)) (answers (steps_of_lines os (fresh l)) (fresh l)) = subst (Chain l m (steps_of_lines os (fresh l))) (reached c).said c in
    let all = demanded chain in
    record {
      output = eo;
      memory = em;
      chain = chain;
      demand = all;
      model = answers_are os (fresh l)
          ∙ ap (map command_line) (all.demand.answered ∙ ap (λ (cs : List Command). replies cs (start l.adapter l.domain)) (commands_are os (fresh l)));
    }

-- lines after those that were carried out
pub played_more : (l : Limits) (xs ys : List (Outcome Request)) {before out after : List ℕ} {m n : Memory} {r : ℕ} → Played l xs before m → Done ys m n 0 out after r
    → Played l (xs ++ ys) (before ++ take r after) n
unfolding GoesOn
played_more l xs ys {before} {out} {after} {m} {n} {r} p d =
    let state : read m ≡ state_after xs (fresh l) = p.demand.state in
    let text : take r after ≡ output_of ys (state_after xs (fresh l)) =
    ap (take r) d.out ∙ take_at (output_of ys (read m)) (drop r out) r (omega (arith, d.written)) ∙ ap (output_of ys) state in
    let went = d.calls l (steps_of_lines xs (fresh l)) (answers (steps_of_lines xs (fresh l)) (fresh l)) p.chain in
    let steps : steps_of_lines xs (fresh l) ++ steps_of_lines ys (read m) ≡ steps_of_lines (xs ++ ys) (fresh l) =
    ap (λ (t : State). steps_of_lines xs (fresh l) ++ steps_of_lines ys t) state ∙ sym (steps_append xs ys (fresh l)) in
    played_by l (xs ++ ys) (ap₂ (λ (x y : List ℕ). x ++ y) p.output text ∙ sym (output_append xs ys (fresh l)))
    (d.memory ∙ ap (leaves_all (requests_of ys)) p.memory
    ∙ sym (ap (λ (q : List Request). leaves_all q (fresh_memory l.adapter l.domain)) (requests_append xs ys) ∙ leaves_append (requests_of xs) (requests_of ys) (fresh_memory l.adapter l.domain)))
    (subst (λ (q : List Step). Chain l n q (answers (steps_of_lines xs (fresh l)) (fresh l) ++ went.0)) steps went.1)

-- nothing yet
pub played_none : {l : Limits} {m : Memory} → m ≡ fresh_memory l.adapter l.domain → Chain l m [] [] → Played l [] [] m
unfolding answers_to joined requests_of leaves_all steps_of
played_none {l} {m} e c = played_by l [] refl e c
