use Rattle.std.proofs.Common.{List, map, refl, subst, sym}
use Rattle.vet_base.specs.FurtherCriteria.{further}
use Rattle.vet_base.specs.Items.{SameItems}
use Rattle.vet_entries.specs.declared.facts.HeldEntry.{HeldEntry}
use Rattle.vet_item_rows.specs.ReadPeers.{ArePartsOf, criterion_in}
use Rattle.vet_item_rows.specs.declared.read.criteria.SourcedCriterion.{SourcedCriterion}
use Rattle.vet_item_rows.proofs.FactsMade.{own_criteria_are, own_entries_are, peers_parts}
use Rattle.vet_item_rows.proofs.Reading.{passed_on}
use Rattle.vet_item_rows.proofs.read.facts.parts_of.Goals as goal

pub returns-in_err-peers-clause-back : goal.returns-in_err-peers-clause-back
returns-in_err-peers-clause-back c facts form items =
    rw (passed_on c.from_residual-in_err-peers.result c.in_err-peers.field-0.0 c.from_residual-in_err-peers.ensures.1
    (c.in_err-peers.ensures.back facts.peers (rw (c.in_ok-entries.ensures.peers, c.in_ok-criteria.ensures.peers)
    (peers_parts facts form c.args.criteria.items c.args.entries.items c.args.settings.items items)))) refl

pub returns-clause-back : goal.returns-clause-back
returns-clause-back c facts form items =
    let criteria = c.args.criteria.items in
    let entries = c.args.entries.items in
    let settings = c.args.settings.items in
    let own = subst (λ (xs : List SourcedCriterion). SameItems (map criterion_in xs) (further facts.criteria))
    (sym c.in_ok-criteria.ensures.own) (own_criteria_are facts form criteria entries settings items) in
    let held = subst (λ (xs : List HeldEntry). SameItems xs facts.entries) (sym c.in_ok-entries.ensures.own)
    (own_entries_are facts form criteria entries settings items) in
    let parts : ArePartsOf settings c.in_ok-entries.entries.peers.items c.in_ok-criteria.criteria.peers.items
    facts.peers = rw (c.in_ok-entries.ensures.peers, c.in_ok-criteria.ensures.peers)
    (peers_parts facts form criteria entries settings items) in
    c.with_own.ensures.back facts form own held (c.in_ok-peers.ensures.back facts.peers parts)
