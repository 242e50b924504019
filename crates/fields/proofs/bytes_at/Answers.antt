-- `bytes_at` meets its contract: what is there is copied, and zeros follow.
use Rattle.std.proofs.Common.{refl, ap, ◌∙◌}
use denote.Ref.{Bor}
use mathlib.Core.List.{List}
use Prim.Native.Nat.{ℕ}
use Rattle.fields.proofs.Laws.{part_there, copied_bytes}
use Rattle.fields.proofs.bytes_at.Goals as goal

pub returns : goal.returns
returns g c =
    let b = c.args.bytes.now in
    copied_bytes b c.unwrap_or-there.result.now c.copy_from_slice.new.self c.args.at c.min-n.result g.row.N
    (ap (λ (x : Bor (List ℕ)). x.now) c.unwrap_or-there.ensures ∙ part_there b c.args.at c.get.result _ refl c.get.ensures.lookup.0)
    c.min-n.ensures c.copy_from_slice.ensures.after
