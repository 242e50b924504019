-- `control_domains` meets its contract: it is refused, or the lines are written.
use Rattle.std.proofs.Common.{ℕ, ◌≡◌, refl, sym, ap, ◌∙◌, arith}
use Rattle.errno.specs.Errno.{number_of}
use Rattle.errno.specs.declared.Errno.TheVariants.{Enoent}
use Rattle.mask.specs.Bits.{bits}
use Rattle.rules.specs.State.{slots}
use Rattle.rules.specs.Commands.{slot_of, numbers_of}
use Rattle.rules.proofs.First.{found_some, found_nothing}
use Rattle.layout.specs.Lent.{devices, device_with}
use Rattle.layout.proofs.Laws.{cond_below, cond_past}
use Rattle.controllist.proofs.control_domains.Goals as goal

pub returns-in-None : goal.returns-in-None
unfolding number_of
returns-in-None c =
    let a = c.args in
    record {
      answer = c.from.ensures ∙ sym (cond_past (slot_of a.id (devices a.words)) slots 0 2 (found_nothing c.in-None.ensures));
      accepted = λ e. absurd (omega arith);
      refused = λ e. (refl, refl);
    }

pub returns-in-Some : goal.returns-in-Some
unfolding numbers_of
returns-in-Some c =
    let a = c.args in
    let vs = devices a.words in
    let at = found_some c.in-Some.ensures in
    let controls : bits c.numbers-controls.result ≡ (device_with a.id vs).controls =
    c.numbers-controls.ensures ∙ ap (λ (p : ℕ). (vs p).controls) at.1 in
    record {
      answer = sym (cond_below (slot_of a.id vs) slots 0 (number_of Enoent) (rw at.1 at at.0));
      accepted = λ e. rw controls at c.write.ensures;
      refused = λ e. absurd (e refl);
    }
