use Rattle.std.proofs.Common.{ap, ◌∙◌}
use Rattle.std.specs.FinSet as set
use Rattle.vet_base.specs.Names.{members}
use Rattle.vet_base.specs.CriteriaSetLaws.{same_places}
use Rattle.vet_entries.specs.LocalCriteria.{stands_for}
use Rattle.vet_entries.proofs.JoinedWords.{of_all, of_more, of_none}
use Rattle.vet_entries.proofs.PeerWords.{each_stands}
use Rattle.vet_entries.proofs.local_criteria.PeerWords.of_names.Goals as goal

pub loop-name-init : goal.loop-name-init
loop-name-init c = of_none c.empty-set.result c.empty-set.ensures

pub loop-name-preserved : goal.loop-name-preserved
loop-name-preserved c =
    of_more (stands_for c.args.criteria.now c.args.peer.now) c.as_slice-name-items.result.now c.loop-name.name-index
    c.name-item.result c.loop-name.set c.union-set.result
    c.loop-name-test.true c.name-item.is c.loop-name.invariant
    (c.union-set.ensures ∙ ap (set.union c.loop-name.set) c.of_name.ensures)

pub returns : goal.returns
returns c =
    let table = c.args.criteria.now in
    let peer = c.args.peer.now in
    let names = members c.args.names.now in
    same_places _ _ (λ q. of_all (stands_for table peer) c.as_slice-name-items.result.now names c.loop-name.name-index
    c.loop-name.set
    c.loop-name-test.false c.as_slice-name-items.ensures.members c.loop-name.invariant q
    ∙ each_stands peer.content.table peer.settings.map table c.args.names.now q)
