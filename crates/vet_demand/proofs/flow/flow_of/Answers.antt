use Rattle.std.proofs.Common.{subst, sym, take}
use Rattle.vet_demand.proofs.Lists.{one_more}
use Rattle.vet_demand.specs.Flow.{IsFlow}
use Rattle.vet_demand.specs.Spread.{lists_in}
use Rattle.vet_demand.proofs.flow.flow_of.Goals as goal

pub edges-preserved : goal.edges-preserved
edges-preserved c =
    subst (λ edges. IsFlow c.args.terms.now.policies.now.items c.args.terms.now.criteria.now c.args.nodes.now edges
    c.follow.new.flow.needs.items (lists_in c.follow.new.flow.onward.items))
    (sym (one_more c.args.edges.now c.edges.edge-index _ c.edges-test.true))
    (c.in_ok-follow.ensures.ok (take c.edges.edge-index c.args.edges.now) c.edges.invariant)
