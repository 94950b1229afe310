use Rattle.std.proofs.Common.{refl, sym, ap, subst, ◌∙◌, get_or, set}
use Rattle.std.specs.FinSet as places
use Rattle.vet_demand.proofs.Flowing.{Follows-listed, Follows-not_taken, Follows-on, passed_read, takes_read}
use Rattle.vet_demand.proofs.Lists.{map_gives, none_mapped}
use Rattle.vet_demand.specs.Flow.{Follows}
use Rattle.vet_demand.specs.Spread.{lists_in}
use Rattle.vet_demand.specs.Terms.{closed_places}
use Rattle.vet_demand.proofs.flow.follow.Goals as goal

pub returns-then-not-takes-clause-ok : goal.returns-then-not-takes-clause-ok
returns-then-not-takes-clause-ok c =
    let policies = c.args.terms.now.policies.now.items in
    let criteria = c.args.terms.now.criteria.now in
    let nodes = c.args.nodes.now in
    let e = c.args.edge.now in
    let told = takes_read policies nodes c.args.found.now c.requires.found e.to c.index-nodes-edge.result
    c.index-found-edge.result c.requires.within.1 c.index-nodes-edge.is c.index-found-edge.is in
    Follows-not_taken policies criteria nodes e c.args.flow.now.needs.items (lists_in c.args.flow.now.onward.items)
    (sym told ∙ sym c.takes.ensures ∙ c.if-not-takes.true)

pub returns-in-Some-clause-ok : goal.returns-in-Some-clause-ok
returns-in-Some-clause-ok c =
    let policies = c.args.terms.now.policies.now.items in
    let criteria = c.args.terms.now.criteria.now in
    let nodes = c.args.nodes.now in
    let e = c.args.edge.now in
    let needs = c.args.flow.now.needs.items in
    let onward = lists_in c.args.flow.now.onward.items in
    let told = takes_read policies nodes c.args.found.now c.requires.found e.to c.index-nodes-edge.result
    c.index-found-edge.result c.requires.within.1 c.index-nodes-edge.is c.index-found-edge.is in
    let passes = passed_read policies nodes c.args.found.now c.requires.found e.from c.index-nodes-edge-2.result
    c.index-found-edge-2.result c.requires.within.0 c.index-nodes-edge-2.is c.index-found-edge-2.is
    e c.index-nodes-edge.result refl c.requires.within.1 c.index-nodes-edge.is in
    let list = map_gives (closed_places criteria) _ c.in-Some.set (sym c.passed.ensures ∙ c.in-Some.is) in
    subst (λ s. Follows policies criteria nodes e needs onward s onward)
    (sym (c.add_at.ensures ∙ ap (λ s. set needs e.to (places.union (get_or needs e.to places.empty) s)) (sym list.2)))
    (Follows-listed policies criteria nodes e needs onward list.0 c.requires.within (sym told ∙ sym c.takes.ensures
    ∙ c.if-not-takes.false) (sym passes ∙ list.1))

pub returns-in_ok-push_at-in-None-clause-ok : goal.returns-in_ok-push_at-in-None-clause-ok
returns-in_ok-push_at-in-None-clause-ok c =
    let policies = c.args.terms.now.policies.now.items in
    let criteria = c.args.terms.now.criteria.now in
    let nodes = c.args.nodes.now in
    let e = c.args.edge.now in
    let needs = c.args.flow.now.needs.items in
    let onward = lists_in c.args.flow.now.onward.items in
    let told = takes_read policies nodes c.args.found.now c.requires.found e.to c.index-nodes-edge.result
    c.index-found-edge.result c.requires.within.1 c.index-nodes-edge.is c.index-found-edge.is in
    let passes = passed_read policies nodes c.args.found.now c.requires.found e.from c.index-nodes-edge-2.result
    c.index-found-edge-2.result c.requires.within.0 c.index-nodes-edge-2.is c.index-found-edge-2.is
    e c.index-nodes-edge.result refl c.requires.within.1 c.index-nodes-edge.is in
    let none = none_mapped (closed_places criteria) _ (sym c.passed.ensures ∙ c.in-None.is) in
    subst (λ o. Follows policies criteria nodes e needs onward needs o) (sym c.in_ok-push_at-in-None.ensures.ok)
    (Follows-on policies criteria nodes e needs onward c.requires.within (sym told ∙ sym c.takes.ensures
    ∙ c.if-not-takes.false) (sym passes ∙ none))
