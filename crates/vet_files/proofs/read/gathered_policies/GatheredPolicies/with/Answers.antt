use Rattle.std.proofs.Common.{subst, true}
use Rattle.std.specs.BTreeSet.{Updates}
use Rattle.vet_demand.specs.PolicyKey.{policy_key_cmp}
use Rattle.vet_demand.specs.declared.policies.KeyedPolicy.{KeyedPolicy}
use Rattle.vet_files.proofs.PoliciesGathered.{AreTheKeys-push}
use Rattle.vet_files.proofs.read.gathered_policies.GatheredPolicies.with.Goals as goal

pub invariant_of-result : goal.invariant_of-result
invariant_of-result c =
    let policy : KeyedPolicy = record { key = c.args.key; policy = c.args.policy } in
    let updates = subst (λ key. Updates policy_key_cmp c.self.inside.keys c.insert.new.self key true)
    c.in_ok-clone.ensures.cases c.in_ok-insert.ensures.updates in
    rw (c.in_ok-push.ensures.items)
    (AreTheKeys-push c.self.inside.keys c.insert.new.self c.self.inside.policies.items policy c.self.invariant
    updates)
