-- `list` meets its contract: it is refused, or the lines of the matrix are written.
use Rattle.std.proofs.Common.{Some, None, ◌≡◌, refl, ap, ◌∙◌, arith, length}
use Rattle.std.proofs.lemmas.Result.{err_from_is_err_and}
use Rattle.errno.specs.declared.Errno.TheVariants.{Enoent}
use Rattle.product.specs.Meet.{queues_of}
use Rattle.listing.proofs.Laws.{errno_absent, errno_short, errno_none, matrix_at}
use Rattle.listing.proofs.list.Goals as goal

pub returns-in_err-slot : goal.returns-in_err-slot
returns-in_err-slot c =
    let a = c.args in
    let p = err_from_is_err_and c.from_residual.result c.from_residual.ensures.1 in
    let none : None ≡ c.find.result = grind arith in
    let e : c.in_err-slot.field-0.0 ≡ Enoent = grind arith in
    rw (p.1, p.2, e)
    (record { answer = errno_absent a.words.now a.drivers.now a.id (length a.buf.now) (none ∙ c.find.ensures); accepted = tt; refused = refl })

pub returns-then-buf-lt-LINE : goal.returns-then-buf-lt-LINE
returns-then-buf-lt-LINE c =
    let a = c.args in
    let some : Some c.in_ok-slot.slot ≡ c.find.result = grind arith in
    record {
      answer = errno_short a.words.now a.drivers.now a.id (some ∙ c.find.ensures) (length a.buf.now) (omega arith);
      accepted = tt;
      refused = refl;
    }

pub returns : goal.returns
returns c =
    let a = c.args in
    let some : Some c.in_ok-slot.slot ≡ c.find.result = grind arith in
    let queues = ap queues_of c.from.ensures ∙ matrix_at a.words.now a.drivers.now a.id (some ∙ c.find.ensures) c.masks_at-m.ensures in
    record {
      answer = errno_none a.words.now a.drivers.now a.id (some ∙ c.find.ensures) (length a.buf.now) (omega arith);
      accepted = rw queues at c.write.ensures;
      refused = tt;
    }
