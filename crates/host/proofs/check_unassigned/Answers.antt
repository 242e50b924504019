-- `check_unassigned` meets its contract. What owning the masks tells says how long they are.
use Rattle.std.proofs.Common.{true, false, sym, ◌∙◌}
use Rattle.mask.proofs.Laws.{mask_words_lem}
use Rattle.layout.specs.Layout.{device_in}
use Rattle.product.specs.Meet.{queues_of}
use Rattle.host.proofs.Laws.{by_taken}
use Rattle.host.proofs.check_unassigned.Goals as goal

pub returns-then-taken : goal.returns-then-taken
returns-then-taken c =
    let m = c.args.reserved in
    let o = c.well_formed.1.0 in
    record {
      answer = by_taken (queues_of m) (device_in c.args.words.now) true (sym c.if-taken.true ∙ c.taken.ensures);
      sized = (mask_words_lem m.adapters o.1.1.0, mask_words_lem m.domains o.1.1.1.0);
    }

pub returns : goal.returns
returns c =
    let m = c.args.reserved in
    let o = c.well_formed.1.0 in
    record {
      answer = by_taken (queues_of m) (device_in c.args.words.now) false (sym c.if-taken.false ∙ c.taken.ensures);
      sized = (mask_words_lem m.adapters o.1.1.0, mask_words_lem m.domains o.1.1.1.0);
    }
