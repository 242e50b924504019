-- `used` meets its contract: the line says the number's digits.
use Rattle.errno.specs.Ascii.{ascii}
use Rattle.answerline.specs.Answers.{sweep_line}
use Rattle.answerline.proofs.Laws.{digits_of}
use Rattle.answerline.proofs.used.Goals as goal

pub slice_bounds-line-end-2 : goal.slice_bounds-line-end-2
slice_bounds-line-end-2 c =
    let w = c in
    (digits_of w.write-number.result.from w.args.n w.write-number.ensures).1

pub returns : goal.returns
unfolding ascii sweep_line
returns c =
    let l = c in
    let w = l in
    rw (← (digits_of w.write-number.result.from w.args.n w.write-number.ensures).0) l.line.ensures
