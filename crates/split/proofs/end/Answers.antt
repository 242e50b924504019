-- `end` meets its contract: the first separator is looked for from the index on.
use Rattle.std.proofs.Common.{◌≡◌, ◌+◌, ◌∙◌, sym, ap, length, drop, arith}
use lib.ListN.{length-drop}
use lib.Seq.{take_all}
use Rattle.std.specs.Option.{unwrap_or}
use Rattle.split.specs.Cut.{end_from, first_of}
use Rattle.split.proofs.Laws.{end_past, found_or_all}
use Rattle.split.proofs.end.Goals as goal

pub returns-in-Some : goal.returns-in-Some
unfolding end_from
returns-in-Some c =
    let a = c.args in
    let r = c.in-Some.rest.now in
    let found : unwrap_or c.first.result (length r) ≡ first_of a.c r = rw c.first.ensures (found_or_all a.c r) in
    let rest : r ≡ drop a.from a.s.now = c.in-Some.ensures.lookup.0.2 ∙ take_all _ _ (omega (arith, length-drop a.from a.s.now)) in
    ap (λ n. a.from + n) (c.unwrap_or.ensures ∙ found ∙ ap (first_of a.c) rest)

pub returns-in-None : goal.returns-in-None
returns-in-None c = sym (end_past c.args.c c.args.s.now c.args.from (omega (arith, c.in-None.ensures.lookup)))
