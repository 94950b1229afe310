-- Policies with their keys are equal only to themselves (ours).
use Rattle.std.specs.Prelude.{◌≡◌, List}
use Rattle.std.specs.Bool.{Decides}
use Rattle.std.specs.Cmp.Lexicographic.{pointwise_decides}
use Rattle.std.proofs.Common.{ap}
use Rattle.std.proofs.lemmas.Bool.Decides.{Decides-and, Decides-like}
use Rattle.vet_demand.specs.PolicyLaws.{policy_eq-Decides}
use Rattle.vet_demand.specs.PolicyKeyLaws.{policy_key_eq-Decides}
use Rattle.vet_demand.specs.declared.policies.KeyedPolicy.{KeyedPolicy}
use Rattle.vet_demand.specs.Policies.{keyed_policy_eq, policies_eq}

same_keyed : (a b : KeyedPolicy) → (a.key ≡ b.key) × (a.policy ≡ b.policy) → a ≡ b
same_keyed a b h = λ i. record { key = h.0 i; policy = h.1 i }

-- a policy with its key is equal only to itself
pub keyed_policy_eq-Decides : (a b : KeyedPolicy) → Decides (keyed_policy_eq a b) (a ≡ b)
keyed_policy_eq-Decides a b =
    Decides-like _ (same_keyed a b) (λ e. (ap (λ (p : KeyedPolicy). p.key) e, ap (λ (p : KeyedPolicy). p.policy) e))
    (Decides-and _ _ (policy_key_eq-Decides a.key b.key) (policy_eq-Decides a.policy b.policy))

pub policies_eq-Decides : (a b : List KeyedPolicy) → Decides (policies_eq a b) (a ≡ b)
policies_eq-Decides = pointwise_decides keyed_policy_eq-Decides
