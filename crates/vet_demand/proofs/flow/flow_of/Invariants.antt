-- The flow by the edges so far.
use Rattle.std.proofs.Common.{take}
use Rattle.vet_demand.specs.Flow.{IsFlow}
use Rattle.vet_demand.specs.Spread.{lists_in}
use Rattle.vet_demand.proofs.flow.flow_of.Given as goal

abbrev pub invariant-edges : goal.invariant-edges
invariant-edges l =
    IsFlow l.terms.policies.now.items l.terms.criteria.now l.nodes (take l.edge-index l.edges) l.flow.needs.items
    (lists_in l.flow.onward.items)
