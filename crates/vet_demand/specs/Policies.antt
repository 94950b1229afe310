-- Policies in the order of their keys, no key twice (ours).
use Rattle.std.specs.Prelude.{◌≡◌, ◌&&◌, Bool, List, [], Option, Some, is_some, option_map}
use Rattle.std.specs.Cmp.Lexicographic.{pointwise}
use Rattle.vet_base.specs.Keyed.{IsByKey, all_set, item_of, with_item}
use Rattle.vet_demand.specs.Policy.{policy_eq}
use Rattle.vet_demand.specs.PolicyKey.{policy_key_cmp, policy_key_eq}
use Rattle.vet_demand.specs.declared.policy.Policy.{Policy}
use Rattle.vet_demand.specs.declared.policy_key.PolicyKey.{PolicyKey}
use Rattle.vet_demand.specs.declared.policies.KeyedPolicy.{KeyedPolicy}

-- the key of a policy
abbrev pub key_of : KeyedPolicy → PolicyKey
key_of p = p.key

-- each policy's key comes before those after it
abbrev pub IsInKeyOrder : List KeyedPolicy → Type 0
IsInKeyOrder policies = IsByKey policy_key_cmp key_of policies

-- the policy of a key
abbrev pub policy_of : List KeyedPolicy → PolicyKey → Option Policy
policy_of policies key = option_map (λ p. p.policy) (item_of policy_key_cmp key_of policies key)

-- whether a key has a policy
abbrev pub has_policy : List KeyedPolicy → PolicyKey → Bool
has_policy policies key = is_some (item_of policy_key_cmp key_of policies key)

-- the policies of lesser keys, then this one of this key, then those of greater keys
abbrev pub with_policy : List KeyedPolicy → PolicyKey → Policy → List KeyedPolicy
with_policy policies key policy = with_item policy_key_cmp key_of policies (record { key = key; policy = policy })

-- policies set one after another, so that the last one of each key remains
abbrev pub in_key_order : List KeyedPolicy → List KeyedPolicy
in_key_order policies = all_set policy_key_cmp key_of [] policies

-- a policy that is set is found at its key, and every other key keeps its policy
abbrev pub SetPolicyIsFound : Type 0
SetPolicyIsFound = (policies : List KeyedPolicy) (key : PolicyKey) (policy : Policy)
    → policy_of (with_policy policies key policy) key ≡ Some policy

abbrev pub OtherPoliciesStay : Type 0
OtherPoliciesStay =
    (policies : List KeyedPolicy) (key other : PolicyKey) (policy : Policy) → (other ≡ key → ⊥)
    → policy_of (with_policy policies key policy) other ≡ policy_of policies other

-- the same key with the same policy
abbrev pub keyed_policy_eq : KeyedPolicy → KeyedPolicy → Bool
keyed_policy_eq a b = policy_key_eq a.key b.key && policy_eq a.policy b.policy

-- the same keys with the same policies
abbrev pub policies_eq : List KeyedPolicy → List KeyedPolicy → Bool
policies_eq = pointwise keyed_policy_eq
