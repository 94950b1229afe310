use Rattle.std.proofs.Common.{◌≡◌, ◌∙◌, ap, filter, sym, subst}
use Rattle.vet_base.specs.FurtherCriteria.{further}
use Rattle.vet_files.specs.SameContent.{IsAudits}
use Rattle.vet_register.specs.HeldFiles.{is_audit, unnumbered}
use Rattle.vet_register.proofs.Readable.{audits_readable}
use Rattle.vet_register.proofs.register.Register.held_audits.Goals as goal

pub returns-clause-readable : goal.returns-clause-readable
returns-clause-readable g c =
    let state = c.args.self.now.state in
    let criteria : c.of.result ≡ further state.held.facts.criteria = c.of.ensures ∙ c.in_ok-criteria.ensures ∙ ap
    further c.criteria.ensures in
    let entries : c.of-2.result ≡ filter is_audit (unnumbered state.held.facts.entries) =
    c.of-2.ensures ∙ c.in_ok-entries.ensures ∙ ap (λ es. filter is_audit (unnumbered es)) c.entries.ensures in
    subst IsAudits (λ i. record { criteria = sym criteria i; entries = sym entries i })
    (audits_readable state.held.facts state.next_entry c.state_is_sound.ensures.held.facts)
