use Rattle.std.proofs.Common.{ap, option_map}
use Rattle.vet_demand.specs.PolicyKey.{policy_key_cmp}
use Rattle.vet_demand.specs.PolicyKeyLaws.{policy_key_cmp-IsAntisymmetric, policy_key_total}
use Rattle.vet_demand.specs.Policies.{key_of}
use Rattle.vet_demand.specs.declared.policies.KeyedPolicy.{KeyedPolicy}
use Rattle.vet_base.proofs.KeyedLemmas.{item_of-other, item_of-own}
use Rattle.vet_demand.proofs.laws.set_policy_is_found.Goals as goal

pub returns-clause-own : goal.returns-clause-own
returns-clause-own c policies key policy =
    ap (option_map (λ (p : KeyedPolicy). p.policy))
    (item_of-own policy_key_cmp policy_key_total policy_key_cmp-IsAntisymmetric key_of policies
    (record { key = key; policy = policy }))

pub returns-clause-others : goal.returns-clause-others
returns-clause-others c policies key other policy differs =
    ap (option_map (λ (p : KeyedPolicy). p.policy))
    (item_of-other policy_key_cmp policy_key_total policy_key_cmp-IsAntisymmetric key_of policies
    (record { key = key; policy = policy }) other differs)
