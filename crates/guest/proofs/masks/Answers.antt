-- `masks` meets its contract: a refusal, or the masks of the device that was found.
use Rattle.std.proofs.Common.{ℕ, Some, None, ◌≡◌, subst, ◌∙◌, arith}
use Rattle.std.proofs.lemmas.Result.{err_from_is_err_and}
use Rattle.errno.specs.declared.Errno.TheVariants.{Enoent}
use Rattle.rules.proofs.First.{found_some}
use Rattle.layout.specs.Layout.{state_in, device_in}
use Rattle.matrix.specs.HasMasks.{HasMasks}
use Rattle.guest.proofs.Laws.{errno_found, errno_nowhere}
use Rattle.guest.proofs.masks.Goals as goal

pub returns-in_err-slot : goal.returns-in_err-slot
unfolding state_in
returns-in_err-slot c =
    let a = c.args in
    let p = err_from_is_err_and c.from_residual.result c.from_residual.ensures.1 in
    let none : None ≡ c.find.result = grind arith in
    let e : c.in_err-slot.field-0.0 ≡ Enoent = grind arith in
    rw (p.1, p.2, e) (record { answer = errno_nowhere a.words.now a.drivers.now a.id 0 (none ∙ c.find.ensures); masks = tt })

pub returns : goal.returns
unfolding state_in
returns c =
    let a = c.args in
    let some : Some c.in_ok-slot.slot ≡ c.find.result = grind arith in
    let at = some ∙ c.find.ensures in
    record {
      answer = errno_found a.words.now a.drivers.now a.id 0 at;
      masks = subst (λ (n : ℕ). HasMasks a.matrix (state_in a.words.now a.drivers.now) (device_in a.words.now n) c.masks_at.result)
          (found_some at).1 c.masks_at.ensures;
    }
