use Rattle.std.proofs.Common.{◌||◌, ◌++◌, None, take, sym, ap, ◌∙◌}
use Rattle.std.specs.List.{flat_map, list_any}
use Rattle.std.proofs.lemmas.List.{append-nil, take_all}
use Rattle.std.proofs.lemmas.List.Folds.{list_any-append}
use Rattle.vet_base.specs.Criteria.{closure_at, leads_to}
use Rattle.vet_base.specs.CriteriaSet.{has}
use Rattle.vet_entries.specs.Condemned.{condemns}
use Rattle.vet_entries.specs.Source.{entries_from}
use Rattle.vet_entries.specs.Step.{sourced, taken_from}
use Rattle.vet_entries.proofs.Sourcing.{one_more_read}
use Rattle.vet_entries.proofs.condemned.condemned.Goals as goal

pub loop-peer-init : goal.loop-peer-init
loop-peer-init c k =
    let table = c.criteria-criteria.result.now in
    let test = condemns table c.args.version.now k in
    c.with_all_violated-violated.ensures k
    ∙ ap (λ b. b || list_any test (entries_from c.own_entries-own.result))
    (ap (λ places. leads_to table places k) c.empty.ensures ∙ c.meet_of_nothing.ensures (closure_at table k))
    ∙ ap (list_any test) (c.own_entries-own.ensures.entries
    ∙ sym (append-nil (sourced None c.args.«package».now c.args.facts.now.content.entries)))

pub loop-peer-preserved : goal.loop-peer-preserved
loop-peer-preserved c k =
    let name = c.args.«package».now in
    let own = sourced None name c.args.facts.now.content.entries in
    let peers = c.peers-peer-items.result.now in
    let i = c.loop-peer.peer-index in
    let peer = c.peer-item.result in
    let test = condemns c.criteria-criteria.result.now c.args.version.now k in
    let so_far = own ++ flat_map (taken_from name) (take i peers) in
    c.with_all_violated-violated-in-loop-peer.ensures k
    ∙ ap (λ b. b || list_any test (entries_from c.entries_taken-taken.result)) (c.loop-peer.invariant k)
    ∙ ap (λ es. list_any test so_far || list_any test es) c.entries_taken-taken.ensures.entries
    ∙ sym (list_any-append test so_far (taken_from name peer))
    ∙ ap (list_any test) (one_more_read (taken_from name) peers i peer own c.loop-peer-test.true c.peer-item.is)

pub returns : goal.returns
returns c k =
    let name = c.args.«package».now in
    let own = sourced None name c.args.facts.now.content.entries in
    let peers = take_all c.loop-peer.peer-index c.peers-peer-items.result.now c.loop-peer-test.false
    ∙ c.peers-peer-items.ensures.value in
    ap (has k) c.leading_to.ensures
    ∙ c.led_to.ensures c.criteria-criteria.result.now c.loop-peer.violated k
    ∙ c.loop-peer.invariant k
    ∙ (λ i. list_any (condemns (c.criteria-criteria.ensures.value i) c.args.version.now k)
    (own ++ flat_map (taken_from name) (peers i)))
