-- A line that is answered.
-- Assumes nothing.
use Prim.Native.Nat.{ℕ, ◌+◌, ◌≤◌}
use native.Mathlib.Nat.{zero-add}
use native.Mathlib.Omega.{arith}
use mathlib.Core.Bool.{Bool, cond}
use mathlib.Core.List.{List, ◌++◌}
use mathlib.Core.Path.{◌≡◌, refl, sym, ap, ap₂, subst, ◌∙◌}
use lib.ListN.{length, drop}
use lib.Seq.{paste, take-length}
use borrow.Author.Tests.{le-leb}
use Rattle.layout.specs.Carried.{Memory}
use Rattle.answerline.specs.Answers.{longest, Put}
use Rattle.linetext.specs.Lines.{line_request}
use Rattle.consoleline.specs.Answering.{answer_line, Answered}
use Rattle.c_line.specs.Served.{LineServed}

pub served : {line text out out' : List ℕ} {m n : Memory} {old w : ℕ} → longest ≤ length out → Answered (line_request line) m n text → Put text 0 out out' w
    → LineServed line m n out out' old w 0
unfolding answer_line
served {line} {text} {out} {out'} {m} {n} {old} {w} h a p =
    let room = le-leb (0 + longest) (length out) (omega arith) in
    let next : w ≡ length text = p.next ∙ ap (λ (b : Bool). cond b (0 + length text) 0) room ∙ zero-add (length text) in
    let bytes : out' ≡ text ++ drop w out =
    p.bytes ∙ ap (λ (b : Bool). cond b (paste out 0 text (length text)) out) room
    ∙ ap₂ (λ (x : List ℕ) (k : ℕ). x ++ drop k out) (take-length text) (zero-add (length text) ∙ sym next) in
    record {
      short = λ l. absurd (omega arith);
      answered = λ l. refl;
      written = λ l. next ∙ ap length a.answer;
      out = λ l. bytes ∙ ap (λ (x : List ℕ). x ++ drop w out) a.answer;
      done = λ l. subst (Answered (line_request line) m n) a.answer a;
    }
