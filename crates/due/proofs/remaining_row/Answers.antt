-- `remaining_row` meets its contract: each queue adds what is due of it, at most two.
use Prim.Native.Nat.{ℕ, ◌+◌, ◌*◌}
use native.Mathlib.Omega.{arith}
use mathlib.Core.Path.{refl, ◌∙◌}
use lib.ListN.{get_or}
use Rattle.std.proofs.Common.{rules}
use Rattle.std.proofs.lemmas.Iterator.{YieldsList-from_map}
use Rattle.std.proofs.lemmas.Iterator.Consumers.{sum_from_yields_List, fits_from_yields_list}
use Rattle.rules.specs.Queues.{due}
use Rattle.layout.specs.Layout.{driver_of}
use Rattle.targetrow.specs.TargetRows.{row_target}
use Rattle.due.proofs.Laws.{row_sum, row_fits}
use Rattle.ranges.proofs.Laws.{inclusive_yields}
use Rattle.due.proofs.remaining_row.Goals as goal

pub sum-requires-clause-fits : goal.sum-requires-clause-fits
sum-requires-clause-fits c =
    let a = c.args in
    let moves : ℕ → ℕ = λ n. due (driver_of (get_or a.drivers.now (a.adapter.0 * 256 + n) 0)) (row_target c.of-row.result n) in
    fits_from_yields_list c.map.result _
    (YieldsList-from_map _ moves (inclusive_yields 0 255 256 c.map.ensures.source c.new.ensures.start c.new.ensures.end c.new.ensures.exhausted refl) c.map.ensures.closure (λ x r q k. (search rules, search rules)))
    (row_fits a.words.now a.drivers.now a.adapter.0 c.of-row.result c.of-row.ensures 256 (omega arith))

pub returns : goal.returns
returns c =
    let a = c.args in
    let moves : ℕ → ℕ = λ n. due (driver_of (get_or a.drivers.now (a.adapter.0 * 256 + n) 0)) (row_target c.of-row.result n) in
    sum_from_yields_List c.map.result _ c.sum.ensures.ran
    (YieldsList-from_map _ moves (inclusive_yields 0 255 256 c.map.ensures.source c.new.ensures.start c.new.ensures.end c.new.ensures.exhausted refl) c.map.ensures.closure (λ x r q k. (search rules, search rules)))
    ∙ row_sum a.words.now a.drivers.now a.adapter.0 c.of-row.result c.of-row.ensures 256 (omega arith)
