use Rattle.std.proofs.Common.{◌≡◌, ◌<◌, is_some, length, arith, ap, ◌∙◌}
use Rattle.std.specs.List.{insert, remove}
use Rattle.std.proofs.lemmas.List.Edits.{length-remove}
use Rattle.vet_entries.specs.HeldPeer.{holding_or_none, peer_of}
use Rattle.vet_entries.proofs.PeerLaws.{found_own}
use Rattle.vet_base.proofs.ListLemmas.{remove-insert}
use Rattle.vet_entries.proofs.Edits.{insert-remove}
use Rattle.vet_entries.proofs.EntriesBack.{entries_back}
use Rattle.vet_entries.proofs.facts.EntryFacts.apply.Goals as goal

pub returns-in-Insert-clause-back : goal.returns-in-Insert-clause-back
returns-in-Insert-clause-back c =
    let place = c.in-Insert.place in
    let items = c.self.inside.entries.entries in
    let fits = rw c.in-Insert.is at c.requires in
    let held : items ≡ c.args.self.now.content.entries = ap (λ f. f.content.entries) c.self.view_is in
    entries_back _ _ (remove c.insert.new.self.entries place) c.self.view_is
    (ap (λ es. remove es place) c.insert.ensures.entries ∙ remove-insert items place c.in-Insert.held
    (omega (arith, fits.0, ap length held)))

pub returns-in-Remove-clause-back : goal.returns-in-Remove-clause-back
returns-in-Remove-clause-back c =
    let place = c.in-Remove.place in
    let items = c.self.inside.entries.entries in
    let fits : place < length c.args.self.now.content.entries = rw c.in-Remove.is at c.requires in
    let held : items ≡ c.args.self.now.content.entries = ap (λ f. f.content.entries) c.self.view_is in
    entries_back _ _ (insert c.remove.new.self.entries place c.remove.result) c.self.view_is
    (ap (λ es. insert es place c.remove.result) c.remove.ensures.entries
    ∙ insert-remove items place c.remove.result (omega (arith, fits, ap length held)) c.remove.ensures.value)

pub returns-in-Remove-clause-fits : goal.returns-in-Remove-clause-fits
returns-in-Remove-clause-fits c =
    let place = c.in-Remove.place in
    let fits : place < length c.args.self.now.content.entries = rw c.in-Remove.is at c.requires in
    let held = ap (λ f. length f.content.entries) c.self.view_is in (
      omega (arith, fits, held, ap length c.remove.ensures.entries, length-remove c.self.inside.entries.entries place),
      (omega (arith, c.remove.ensures.room), c.remove.ensures.back),
    )

pub returns-in-Settings-clause-fits : goal.returns-in-Settings-clause-fits
returns-in-Settings-clause-fits c =
    let old = c.self.inside.peers.items in
    let settings = c.in-Settings.settings in
    ap is_some
    (ap (peer_of c.exchange_settings.new.peers.items) c.exchange_settings.ensures.name
    ∙ ap (λ ps. peer_of ps settings.name) c.exchange_settings.ensures.items
    ∙ found_own old (record { settings = settings; content = holding_or_none (peer_of old settings.name) }))
