-- A request that was carried out, and its answer line.
-- Assumes nothing.
use Prim.Native.Nat.{ℕ, ◌+◌, ◌*◌, ◌%◌, ◌<◌}
use native.Mathlib.Omega.{arith}
use mathlib.Core.Bool.{cond}
use mathlib.Core.List.{List, []}
use mathlib.Core.Path.{◌≡◌, refl, sym, ap, subst, ◌∙◌}
use Rattle.errno.specs.Outcome.{Outcome, granted, refused}
use Rattle.errno.specs.Errno.{number_of}
use Rattle.errno.specs.declared.Errno.{Errno}
use Rattle.rules.specs.declared.Configuration.{Configuration}
use Rattle.rules.specs.declared.Moved.{Moved}
use Rattle.rules.specs.Queues.{move_answer, moved_number}
use Rattle.rules.specs.Commands.{Answer, answered}
use Rattle.rules.specs.Commands as Commands
use Rattle.layout.specs.Layout.{state_in}
use Rattle.layout.specs.Carried.{Memory, memory, read, Carried}
use Rattle.bind.specs.Moves.{Moving}
use Rattle.sweep.specs.declared.Swept.{Swept}
use Rattle.sweep.specs.Sweeps.{Sweeping}
use Rattle.model.specs.Steps.{Command, configure, queue_of, rule, after_all}
use Rattle.calls.specs.Calls.{effect, configures}
use Rattle.calls.proofs.Chains.{called}
use Rattle.encoding.specs.Encoding.{Request, command, move, sweep}
use Rattle.request.specs.Requests.{answer_byte, Stepped}
use Rattle.request.proofs.Laws.{obeyed, moved, swept}
use Rattle.run.proofs.Laws.{stays, further}
use Rattle.configure.specs.Configured.{configured}
use Rattle.answerline.specs.Answers.{command_line, move_line, sweep_line}
use Rattle.consoleline.specs.Answering.{answer_to, answer_for, steps_in, after_for, leaves_in, Answered}

-- what is asked for, said in another way
pub asked_as : {o p : Outcome Request} {m n : Memory} {line : List ℕ} → o ≡ p → Answered p m n line → Answered o m n line
asked_as {o} {p} {m} {n} {line} e a = subst (λ (x : Outcome Request). Answered x m n line) (sym e) a

-- bad text
pub answered_bad : (e : Errno) (m : Memory) → Answered (refused e) m m (command_line (number_of e))
unfolding answer_for steps_in after_for leaves_in after_all
answered_bad e m = record { answer = refl; state = refl; memory = refl; calls = stays m }

-- a request that was carried out, with its answer
stepped : {x : Request} {m n : Memory} {r : ℕ} {line : List ℕ} → Stepped x m n r → line ≡ answer_to x (read m) → Answered (granted x) m n line
unfolding answer_for steps_in after_for leaves_in
stepped {x} {m} {n} c e =
    record { answer = e; state = (called c.call.1).state; memory = c.memory; calls = further m m n [] _ (stays m) c.call.1 }

-- a command
pub answered_command : {c : Command} {m n : Memory} (r : Answer) {line : List ℕ} → Stepped (command c) m n (answered r) → line ≡ command_line (answered r)
    → Answered (granted (command c)) m n line
unfolding answer_to answer_byte
answered_command r c e = stepped c (e ∙ ap command_line c.answer)

-- a configuration
pub answered_config : (c : Configuration) {m n : Memory} (r : Answer) {line : List ℕ} → Carried (Commands.configure c) (configured c) m n r → line ≡ command_line (answered r)
    → Answered (granted (command (configure c))) m n line
unfolding rule effect
answered_config c r k e = answered_command r (obeyed refl k (configures c r k)) e

-- a move of the queue of two bytes
pub answered_move : (a d : ℕ) (ws qs rs : List ℕ) (m : Moved) → a < 256 → d < 256 → Moving (a * 256 + d) ws qs rs m
    → Answered (granted (move a d)) (memory ws qs) (memory ws rs) (move_line m)
unfolding answer_to queue_of
answered_move a d ws qs rs m ha hd c =
    let queue : a * 256 + d ≡ a % 256 * 256 + d % 256 = omega arith in
    stepped (moved a d ws qs rs (moved_number m) m ha hd refl c) (ap move_line (c.answer ∙ ap (λ (n : ℕ). move_answer n (state_in ws qs)) queue))

-- a sweep
pub answered_sweep : (b : ℕ) (ws qs rs : List ℕ) (w : Swept) → Sweeping b ws qs rs w → Answered (granted (sweep b)) (memory ws qs) (memory ws rs) (sweep_line w.used)
unfolding answer_to
answered_sweep b ws qs rs w c = stepped (swept b ws qs rs (cond w.more 1 0) w refl c) (ap sweep_line c.sweep.number)
