use Rattle.std.proofs.Common.{sym, subst}
use Rattle.vet_demand.specs.DemandOf.{PoliciesAreKnown}
use Rattle.vet_register.specs.State.{State}
use Rattle.vet_register.proofs.state.State.demand.Goals as goal

pub demand-requires : goal.demand-requires
demand-requires c = record {
  known = subst (λ t. PoliciesAreKnown t c.self.inside.policies.items) (sym c.criteria.ensures.value)
      (subst (λ (s : State). PoliciesAreKnown s.held.facts.criteria s.held.policies) (sym c.self.view_is)
      c.requires.held.policies.known);
}
