-- `nothing_configured` meets its contract.
use Rattle.std.proofs.Common.{◌≡◌, ℕ, ap, List, replicate}
use Rattle.layout.specs.Layout.{zeros}
use Rattle.layout.proofs.Laws.{empty_words}
use Rattle.setup.proofs.nothing_configured.Goals as goal

pub returns : goal.returns
returns c =
    let none : c.empty-none.result.words ≡ zeros = empty_words c.empty-none.result c.empty-none.type_inv c.empty-none.ensures in
    ap (λ (ws : List ℕ). record { adapters = record { words = ws }; domains = record { words = ws }; controls = record { words = ws }; types = replicate 256 0 }) none
