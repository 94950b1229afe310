-- Policies in the order of a file, and their keys (ours).
use Rattle.std.specs.Prelude.{◌≡◌, List, [], ◌∷◌, ◌++◌, Ok}
use Rattle.std.specs.BTreeSet.{BTreeSet, contains}
use Rattle.toml.specs.Data.{Data}
use Rattle.vet_base.specs.Gives.{Told, ◌>>=◌}
use Rattle.vet_base.specs.Words.{Text}
use Rattle.vet_demand.specs.Policies.{has_policy, in_key_order}
use Rattle.vet_demand.specs.PolicyKey.{policy_key_cmp}
use Rattle.vet_demand.specs.declared.policies.KeyedPolicy.{KeyedPolicy}
use Rattle.vet_demand.specs.declared.policy.Policy.{Policy}
use Rattle.vet_demand.specs.declared.policy_key.PolicyKey.{PolicyKey}
use Rattle.vet_files.specs.Config.{new_key_told, policy_at}
use Rattle.vet_files.specs.Notices.{sum_of_notices}
use Rattle.vet_files.specs.declared.found.Found.{Found}

-- a set has the keys of these policies, and no others
abbrev pub AreTheKeys : BTreeSet PolicyKey → List KeyedPolicy → Type 0
AreTheKeys keys policies = (k : PolicyKey) → contains policy_key_cmp keys k ≡ has_policy (in_key_order policies) k

-- one more policy after those that were read, whose key is that of none of them
abbrev pub policy_behind : Found (List KeyedPolicy) → PolicyKey → Found Policy → Found (List KeyedPolicy)
policy_behind found key more = record {
  content = found.content ++ record { key = key; policy = more.content } ∷ [];
  notices = sum_of_notices found.notices more.notices;
}

abbrev pub next_gathered : Found (List KeyedPolicy) → Text → Data → Told (Found (List KeyedPolicy))
next_gathered found text d =
    new_key_told text (in_key_order found.content) >>= λ key.
    policy_at text d >>= λ more.
    Ok (policy_behind found key more)
