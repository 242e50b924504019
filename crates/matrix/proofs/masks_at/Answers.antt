-- `masks_at` meets its contract.
use mathlib.Core.Path.{sym, ap, ap₂, ◌∙◌}
use Rattle.mask.specs.Bits.{both}
use Rattle.rules.specs.declared.Matrix.{Matrix}
use Rattle.rules.specs.Commands.{numbers_of}
use Rattle.rules.specs.Queues.{guest_domains, matrix_adapters, matrix_domains, matrix_controls}
use Rattle.layout.specs.Layout.{state_in, device_in}
use Rattle.matrix.proofs.Laws.{guest_adapters_lem}
use Rattle.matrix.proofs.masks_at.Goals as goal

pub returns-in-Assigned : goal.returns-in-Assigned
unfolding matrix_adapters matrix_domains matrix_controls numbers_of
returns-in-Assigned c =
    let n = c in
    let a = n.args in
    let s = state_in a.words.now a.drivers.now in
    let v = device_in a.words.now a.slot in
    let told = sym c.in-Assigned.is in
    record {
      adapters = n.numbers-adapters.ensures ∙ ap (λ (w : Matrix). matrix_adapters w s v) told;
      domains = n.numbers-domains.ensures ∙ ap (λ (w : Matrix). matrix_domains w s v) told;
      controls = c.numbers.ensures ∙ ap (λ (w : Matrix). matrix_controls w s v) told;
    }

pub returns-in-Guest : goal.returns-in-Guest
unfolding matrix_adapters matrix_domains matrix_controls numbers_of guest_domains state_in
returns-in-Guest c =
    let d = c in
    let b = d in
    let n = b in
    let a = n.args in
    let s = state_in a.words.now a.drivers.now in
    let v = device_in a.words.now a.slot in
    let told = sym b.in-Guest.is in
    let adapters = b.and-there.ensures ∙ ap₂ both n.numbers-adapters.ensures b.configured_adapters.ensures in
    let domains = d.and-kept.ensures ∙ ap₂ both n.numbers-domains.ensures d.configured_domains.ensures in
    record {
      adapters = c.passed_adapters.ensures ∙ guest_adapters_lem a.words.now a.drivers.now v adapters domains
          ∙ ap (λ (w : Matrix). matrix_adapters w s v) told;
      domains = domains ∙ ap (λ (w : Matrix). matrix_domains w s v) told;
      controls = c.guest_controls.ensures.mask a.drivers.now ∙ ap (λ (w : Matrix). matrix_controls w s v) told;
    }
