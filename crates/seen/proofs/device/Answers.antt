-- `device` meets its contract: what is in the slot, or nothing.
use mathlib.Core.Bool.{true≢false}
use mathlib.Core.Path.{refl, sym, ap, ◌∙◌}
use Rattle.shown.specs.Shown.{bit}
use Rattle.shown.proofs.Laws.{flag_is}
use Rattle.seen.proofs.device.Goals as goal

pub returns : goal.returns
returns c =
    let f = c in
    let i = f in
    let one = sym i.present.ensures ∙ i.if-not-present.false in
    record {
      there = λ e. (refl, rw i.id.ensures at i.to_bytes.ensures, c.from-2.ensures ∙ flag_is _ ∙ ap bit f.is_open.ensures);
      absent = λ e. absurd (true≢false (sym one ∙ e));
    }
