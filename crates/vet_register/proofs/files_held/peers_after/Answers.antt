use Rattle.std.proofs.Common.{◌≡◌, ◌+◌, ◌<◌, ◌≤◌, ◌^◌, ◌∷◌, [], ◌++◌, length, sym, ap, subst, ◌∙◌, arith}
use Rattle.std.specs.List.{All}
use Rattle.std.proofs.lemmas.List.{take_all}
use Rattle.std.proofs.lemmas.List.Elements.{All-weaker}
use Rattle.vet_base.specs.Keyed.{IsByKey}
use Rattle.vet_base.proofs.Rising.{R}
use Rattle.vet_entries.specs.HeldPeer.{imported, peer_name}
use Rattle.vet_entries.specs.Import.{ComparisonValue, compared}
use Rattle.vet_files.specs.FilesContent.{content_for}
use Rattle.vet_register.specs.Replacing.{held_of_peer, new_own, peer_after, peers_after}
use Rattle.vet_register.proofs.FilesHeld.{after_by_name, after_more, compared_at, count_at, new_more, numbers_at}
use Rattle.vet_register.proofs.FilesHeld.{settings_at}
use Rattle.vet_register.proofs.files_held.peers_after.Goals as goal

pub peers-init : goal.peers-init
peers-init c =
    let own : c.args.comparison.now.own.new_count ≡ new_own c.args.facts.now.content c.args.files.now = ap
    (λ (v : ComparisonValue). v.new_count) c.requires.compared.own in
    (omega (arith, c.new_count.ensures, own), c.new-peers.ensures.items)

pub peer_after-requires-clause-compared : goal.peer_after-requires-clause-compared
peer_after-requires-clause-compared c =
    let peers = c.args.facts.now.content.peers in
    let contents = c.args.files.now.contents in
    let settings = c.settings-settings.result.now in
    let p = c.index-settings-place-in-peers.result in
    let same = settings_at settings c.peers.place p c.index-settings-place.result c.peers-test.true
    c.index-settings-place-in-peers.is in
    let held = sym (c.held_of-held.ensures ∙ ap (held_of_peer peers) same) in
    let content = sym (c.content_of-content.ensures ∙ ap (λ q. content_for contents q.name) same) in
    compared_at peers contents settings c.args.files.now.settings c.settings-settings.ensures _
    (c.as_slice-comparisons.ensures.value ∙ c.requires.compared.peers) c.peers.place c.peers-test.true p
    c.index-settings-place-in-peers.is _ c.index-comparisons-place.is
    ∙ (λ i. compared p.name (held i) (content i))

pub peer_after-requires-clause-below : goal.peer_after-requires-clause-below
peer_after-requires-clause-below c =
    let peers = c.args.facts.now.content.peers in
    let p = c.index-settings-place-in-peers.result in
    let same = settings_at c.settings-settings.result.now c.peers.place p c.index-settings-place.result
    c.peers-test.true c.index-settings-place-in-peers.is in
    let held = sym (c.held_of-held.ensures ∙ ap (held_of_peer peers) same) in
    let above : c.args.next ≤ c.peers.number = omega (arith, c.peers.invariant.0) in
    subst (λ h. All (λ e. e.number < c.peers.number) h.entries) held
    (All-weaker (λ e. e.number < c.args.next) (λ e. e.number < c.peers.number) (λ e low. omega (arith, low, above))
    (held_of_peer peers p).entries (c.requires.peers p))

pub peer_after-requires-clause-numbers : goal.peer_after-requires-clause-numbers
peer_after-requires-clause-numbers c =
    let first = c.args.next + new_own c.args.facts.now.content c.args.files.now in
    numbers_at c.args.facts.now.content.peers c.args.files.now.contents _ _ c.settings-settings.ensures _
    (c.as_slice-comparisons.ensures.value ∙ c.requires.compared.peers) c.peers.place c.peers-test.true _
    c.index-settings-place-in-peers.is _ c.index-comparisons-place.is
    first c.peers.number (2 ^ 64) c.peers.invariant.0 (omega (arith, c.requires.numbers))

pub overflow_add-number-in-peers : goal.overflow_add-number-in-peers
overflow_add-number-in-peers c =
    let first = c.args.next + new_own c.args.facts.now.content c.args.files.now in
    let fits = numbers_at c.args.facts.now.content.peers c.args.files.now.contents _ _ c.settings-settings.ensures _
    (c.as_slice-comparisons.ensures.value ∙ c.requires.compared.peers) c.peers.place c.peers-test.true _
    c.index-settings-place-in-peers.is _ c.index-comparisons-place.is
    first c.peers.number (2 ^ 64) c.peers.invariant.0 (omega (arith, c.requires.numbers)) in
    omega (arith, c.new_count-in-peers.ensures, fits)

pub peers-preserved : goal.peers-preserved
peers-preserved c =
    let peers = c.args.facts.now.content.peers in
    let contents = c.args.files.now.contents in
    let settings = c.settings-settings.result.now in
    let first = c.args.next + new_own c.args.facts.now.content c.args.files.now in
    let i = c.peers.place in
    let p = c.index-settings-place-in-peers.result in
    let at = c.index-settings-place-in-peers.is in
    let count = count_at peers contents settings _ c.settings-settings.ensures _
    (c.as_slice-comparisons.ensures.value ∙ c.requires.compared.peers) i c.peers-test.true p at _
    c.index-comparisons-place.is in
    let same = settings_at settings i p c.index-settings-place.result c.peers-test.true at in
    let held = c.held_of-held.ensures ∙ ap (held_of_peer peers) same in
    let content = c.content_of-content.ensures ∙ ap (λ q. content_for contents q.name) same in
    let made = c.in_ok-peer_after.ensures in
    let imports = made.content ∙ (λ j. imported p.name c.peers.number (content j) (held j)) in
    let peer : c.in_ok-peer_after.field-0 ≡ peer_after c.peers.number peers contents p = λ j. record
    { settings = made.settings j; content = imports j } in (
      omega (
        arith,
        c.new_count-in-peers.ensures,
        count,
        c.peers.invariant.0,
        new_more peers contents settings i p
            c.peers-test.true at,
      ),
      c.in_ok-push.ensures.items
          ∙ (λ j. c.peers.invariant.1 j ++ peer j ∷ [])
          ∙ sym (after_more peers contents first c.peers.number settings i p c.peers-test.true at c.peers.invariant.0),
    )

pub returns-clause-ok : goal.returns-clause-ok
returns-clause-ok c =
    let first = c.args.next + new_own c.args.facts.now.content c.args.files.now in
    let over : length c.settings-settings.result.now ≤ c.peers.place = omega (arith, c.peers-test.false) in
    c.peers.invariant.1
    ∙ ap (peers_after first c.args.facts.now.content.peers c.args.files.now.contents)
    (take_all c.peers.place c.settings-settings.result.now over ∙ c.settings-settings.ensures)

pub returns-clause-by_name : goal.returns-clause-by_name
returns-clause-by_name c =
    let peers = c.args.facts.now.content.peers in
    let contents = c.args.files.now.contents in
    let first = c.args.next + new_own c.args.facts.now.content c.args.files.now in
    let over : length c.settings-settings.result.now ≤ c.peers.place = omega (arith, c.peers-test.false) in
    let all = c.peers.invariant.1 ∙ ap (peers_after first peers contents)
    (take_all c.peers.place c.settings-settings.result.now over ∙ c.settings-settings.ensures) in
    subst (IsByKey R peer_name) (sym all)
    (after_by_name peers contents first c.args.files.now.settings c.is_of_files.ensures.settings_by_name)
