use Rattle.std.proofs.Common.{take}
use Rattle.vet_demand.specs.DemandOf.{PoliciesAreKnown}
use Rattle.trial_values.proofs.known.check_policies.Given as goal

abbrev pub invariant-policies : goal.invariant-policies
invariant-policies l = PoliciesAreKnown l.criteria (take l.held-index l.policies)
