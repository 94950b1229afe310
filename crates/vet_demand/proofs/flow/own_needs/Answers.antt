use Rattle.std.proofs.Common.{◌∙◌, ap, sym}
use Rattle.std.specs.Option.{option_copied}
use Rattle.vet_demand.proofs.Flowing.{own_next, own_read}
use Rattle.vet_demand.specs.Passed.{own_criteria}
use Rattle.vet_demand.specs.Terms.{closed_places}
use Rattle.vet_demand.specs.declared.project.Node.{Node}
use Rattle.vet_demand.proofs.flow.own_needs.Goals as goal

pub nodes-preserved : goal.nodes-preserved
nodes-preserved c =
    let policies = c.args.terms.now.policies.now.items in
    let criteria = c.args.terms.now.criteria.now in
    own_next policies criteria c.args.nodes.now c.nodes.place c.nodes.needs.items c.push.new.self.items
    c.own_set.result c.nodes-test.true c.nodes.invariant
    (c.own_set.ensures
    ∙ ap (λ (n : Node). closed_places criteria (own_criteria n.party (option_copied c.index-found-place.result)))
    (sym c.index-nodes-place.is)
    ∙ own_read policies c.args.nodes.now c.args.found.now c.requires.found c.nodes.place c.index-nodes-place.result
    c.index-found-place.result c.nodes-test.true c.index-nodes-place.is c.index-found-place.is criteria)
    c.in_ok-push.ensures.items
