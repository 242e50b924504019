-- `command_of` meets its contract.
use native.Mathlib.Omega.{arith}
use mathlib.Core.Path.{sym}
use Rattle.encoding.specs.Encoding.{command_of}
use Rattle.encoding.specs.Meant.{meant}
use Rattle.encoding.proofs.Laws.{at_op, is_configure}
use Rattle.encoding.proofs.command_of.Goals as goal

pub returns-in-0 : goal.returns-in-0
unfolding meant command_of
returns-in-0 c = sym (at_op 0 c.args.kind c.args.id c.args.text.now c.in-0.is)

pub returns-in-1 : goal.returns-in-1
unfolding meant command_of
returns-in-1 c = sym (at_op 1 c.args.kind c.args.id c.args.text.now c.in-1.is)

pub returns-in-2 : goal.returns-in-2
unfolding meant command_of
returns-in-2 c = sym (at_op 2 c.args.kind c.args.id c.args.text.now c.in-2.is)

pub returns-in-3 : goal.returns-in-3
unfolding meant command_of
returns-in-3 c = sym (at_op 3 c.args.kind c.args.id c.args.text.now c.in-3.is)

pub returns-in-4 : goal.returns-in-4
unfolding meant command_of
returns-in-4 c = sym (at_op 4 c.args.kind c.args.id c.args.text.now c.in-4.is)

pub returns-in-5 : goal.returns-in-5
unfolding meant command_of
returns-in-5 c = sym (at_op 5 c.args.kind c.args.id c.args.text.now c.in-5.is)

pub returns-in-6 : goal.returns-in-6
unfolding meant command_of
returns-in-6 c = sym (at_op 6 c.args.kind c.args.id c.args.text.now c.in-6.is)

pub returns-in-7 : goal.returns-in-7
unfolding meant command_of
returns-in-7 c = sym (at_op 7 c.args.kind c.args.id c.args.text.now c.in-7.is)

pub returns-in_default : goal.returns-in_default
unfolding meant
returns-in_default c = let a = c.args in
    sym (is_configure a.op a.kind a.id a.text.now (omega arith) (omega arith) (omega arith) (omega arith) (omega arith) (omega arith) (omega arith) (omega arith))
