-- What the nodes so far need by themselves.
use Rattle.std.proofs.Common.{◌≡◌, map, take}
use Rattle.vet_demand.specs.Flow.{own_places}
use Rattle.vet_demand.proofs.flow.own_needs.Given as goal

abbrev pub invariant-nodes : goal.invariant-nodes
invariant-nodes l = l.needs.items ≡ map (own_places l.terms.policies.now.items l.terms.criteria.now)
    (take l.place l.nodes)
