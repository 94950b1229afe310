use Rattle.std.proofs.Common.{◌∙◌, List, ap, map, refl, subst, sym}
use Rattle.vet_base.specs.FurtherCriteria.{further}
use Rattle.vet_base.specs.Items.{SameItems}
use Rattle.vet_base.specs.declared.criterion.Criterion.{Criterion}
use Rattle.vet_entries.specs.declared.facts.HeldEntry.{HeldEntry}
use Rattle.vet_item_rows.specs.ReadPeers.{criterion_in}
use Rattle.vet_item_rows.proofs.PeersMade.{same_peer}
use Rattle.vet_item_rows.proofs.Reading.{passed_on, refused_on}
use Rattle.vet_item_rows.proofs.read.held_peers.held_peer.Goals as goal

pub returns-in_err-definitions : goal.returns-in_err-definitions
returns-in_err-definitions c p is =
    let criteria = c.in_ok-criteria_in.ensures ∙ ap (map criterion_in) c.into_parts-group.ensures.items in
    rw (passed_on c.from_residual-in_err-definitions.result c.in_err-definitions.field-0.0
    c.from_residual-in_err-definitions.ensures.1 (c.in_err-definitions.ensures p.content.table is.held.table
    (subst (λ (xs : List Criterion). SameItems xs (further p.content.table)) (sym criteria) is.criteria))) refl

pub returns-in_err-content : goal.returns-in_err-content
returns-in_err-content c p is =
    rw (refused_on c.from_residual-in_err-content.result c.in_err-content.field-0.0
    c.from_residual-in_err-content.ensures.1 c.in_err-content.ensures.memory) refl

pub returns : goal.returns
returns c p is =
    let criteria = c.in_ok-criteria_in.ensures ∙ ap (map criterion_in) c.into_parts-group.ensures.items in
    let table = c.in_ok-definitions.ensures p.content.table is.held.table
    (subst (λ (xs : List Criterion). SameItems xs (further p.content.table)) (sym criteria) is.criteria) in
    let held = c.into_parts-settings.ensures.items ∙ ap (λ g. g.items) c.into_parts-group.ensures.head in
    let entries = c.in_ok-in_order.ensures.back p.content.entries is.held.by_number
    (subst (λ (xs : List HeldEntry). SameItems xs p.content.entries) (sym held) is.entries) in
    let settings = c.into_parts-settings.ensures.head ∙ ap (λ g. g.head) c.into_parts-group.ensures.head
    ∙ is.settings in
    same_peer settings c.in_ok-content.ensures.ok table entries
