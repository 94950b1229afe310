use Rattle.std.proofs.Common.{◌≡◌, ◌∙◌, ap, filter, map, sym, subst}
use Rattle.vet_entries.specs.declared.held_peer.HeldPeer.{HeldPeer}
use Rattle.vet_files.specs.SameContent.{IsConfig}
use Rattle.vet_register.specs.HeldFiles.{is_exemption, settings_of, unnumbered}
use Rattle.vet_register.specs.RegisterView.{RegisterView}
use Rattle.vet_register.proofs.Readable.{config_readable}
use Rattle.vet_register.proofs.register.Register.held_config.Goals as goal

pub returns-clause-readable : goal.returns-clause-readable
returns-clause-readable g c =
    let state = c.args.self.now.state in
    let version : c.in_ok-vet_version.vet_version ≡ state.held.settings.vet_version =
    c.in_ok-vet_version.ensures ∙ ap (λ (r : RegisterView _). r.state.held.settings.vet_version) c.self.view_is in
    let criteria : c.in_ok-default_criteria.default_criteria ≡ state.held.settings.default_criteria =
    c.in_ok-default_criteria.ensures ∙ ap (λ (r : RegisterView _). r.state.held.settings.default_criteria)
    c.self.view_is in
    let peers : c.of.result ≡ settings_of state.held.facts = c.of.ensures ∙ c.in_ok-peers.ensures ∙ ap
    (map (λ (p : HeldPeer). p.settings)) c.peers.ensures in
    let policies : c.in_ok-policies.policies ≡ state.held.policies = c.in_ok-policies.ensures ∙ c.policies.ensures in
    let exemptions : c.of-2.result ≡ filter is_exemption (unnumbered state.held.facts.entries) =
    c.of-2.ensures ∙ c.in_ok-exemptions.ensures ∙ ap (λ es. filter is_exemption (unnumbered es)) c.entries.ensures in
    subst IsConfig (λ i. record {
      vet_version = sym version i;
      default_criteria = sym criteria i;
      peers = sym peers i;
      policies = sym policies i;
      exemptions = sym exemptions i;
    })
    (config_readable state.held state.next_entry c.state_is_sound.ensures.held)
