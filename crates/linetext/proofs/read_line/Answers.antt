-- `read_line` meets its contract.
use Rattle.linewords.specs.Asked.{asked}
use Rattle.linetext.proofs.Laws.{newline_line, plain_line}
use Rattle.linetext.proofs.Texts.{line_any}
use Rattle.linetext.proofs.read_line.Goals as goal

pub returns-then-holds : goal.returns-then-holds
unfolding asked
returns-then-holds c = record {
  result_value = newline_line c.args.line.now c.holds.ensures c.if-holds.true;
  only_good = line_any c.args.line.now;
}

pub returns : goal.returns
returns c = record {
  result_value = plain_line c.args.line.now c.holds.ensures c.if-holds.false c.read.ensures;
  only_good = line_any c.args.line.now;
}
