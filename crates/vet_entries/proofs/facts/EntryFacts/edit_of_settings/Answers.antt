use Rattle.std.proofs.Common.{◌≡◌, is_some, None, sym, ap, ◌∙◌}
use Rattle.std.proofs.lemmas.Bool.{false≢true}
use Rattle.vet_entries.specs.HeldPeer.{holding_or_none, peer_of, with_peer}
use Rattle.vet_entries.proofs.PeerLaws.{none_of}
use Rattle.vet_entries.proofs.facts.EntryFacts.edit_of_settings.Goals as goal

pub returns-in_err-reserve-clause-held : goal.returns-in_err-reserve-clause-held
returns-in_err-reserve-clause-held c held =
    absurd (false≢true (sym c.if-has.false ∙ c.has.ensures
    ∙ ap (λ f. is_some (peer_of f.content.peers c.args.settings.name)) c.self.view_is ∙ held))

pub returns-in_err-content-clause-held : goal.returns-in_err-content-clause-held
returns-in_err-content-clause-held c held =
    absurd (false≢true (sym c.if-has.false ∙ c.has.ensures
    ∙ ap (λ f. is_some (peer_of f.content.peers c.args.settings.name)) c.self.view_is ∙ held))

pub returns-clause-edit : goal.returns-clause-edit
returns-clause-edit c =
    let old = c.args.self.now.content in
    let settings = c.args.settings in
    let seen = ap (λ f. f.content.peers) c.self.view_is in
    let none : peer_of old.peers settings.name ≡ None =
    none_of _ (ap (λ ps. is_some (peer_of ps settings.name)) (sym seen) ∙ sym c.has.ensures ∙ c.if-has.false) in
    let reserved = c.reserve.ensures.items ∙ seen in
    let edit = rw reserved at c.edit_setting.ensures.edit in
    let after = edit ∙ ap (λ content. with_peer (record { settings = settings; content = content }) old.peers)
    c.in_ok-content.ensures.ok
    ∙ ap (λ o. with_peer (record { settings = settings; content = holding_or_none o }) old.peers) (sym none) in
    λ i. record {
      criteria = old.criteria;
      entries = old.entries;
      peers = after i;
      publishers = old.publishers;
      today = old.today;
    }
