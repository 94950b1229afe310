use Rattle.std.proofs.Common.{subst}
use Rattle.vet_demand.specs.DemandOf.{PoliciesAreKnown}
use Rattle.trial_values.proofs.workspace.Workspace.demand.Goals as goal

pub demand-requires : goal.demand-requires
demand-requires c = record {
  known = subst (PoliciesAreKnown c.args.self.now.criteria) c.items.ensures.value c.in_ok-check_policies.ensures;
}
