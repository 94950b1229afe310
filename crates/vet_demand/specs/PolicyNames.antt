-- The criteria that policies name (ours), and when all of them stay known.
use Rattle.std.specs.Prelude.{◌≡◌, Bool, false, List, [], ◌∷◌, Option, None, unwrap_or}
use Rattle.std.specs.FinMap as map
use Rattle.std.specs.FinSet as set
use Rattle.std.specs.List.{list_any}
use Rattle.vet_base.specs.Criteria.{Criteria, least_unknown}
use Rattle.vet_base.specs.Keyed.{with_item, without_item}
use Rattle.vet_base.specs.Names.{NameSet}
use Rattle.vet_base.specs.Words.{Name}
use Rattle.vet_base.specs.declared.criterion.Criterion.{Criterion}
use Rattle.vet_demand.specs.DemandOf.{PoliciesAreKnown}
use Rattle.vet_demand.specs.Policies.{key_of}
use Rattle.vet_demand.specs.PolicyKey.{policy_key_cmp}
use Rattle.vet_demand.specs.declared.dependency_criteria.DependencyItem.{DependencyItem}
use Rattle.vet_demand.specs.declared.policies.KeyedPolicy.{KeyedPolicy}
use Rattle.vet_demand.specs.declared.policy.Policy.{Policy}
use Rattle.vet_demand.specs.declared.policy_key.PolicyKey.{PolicyKey}

-- the names of a list: an absent one has none
abbrev pub names_listed : Option NameSet → NameSet
names_listed names = unwrap_or names set.empty

-- the names of the lists for dependencies
abbrev pub names_passed : List DependencyItem → NameSet
names_passed [] = set.empty
names_passed (item ∷ rest) = set.union item.criteria (names_passed rest)

-- all criteria that a policy names
abbrev pub names_in : Policy → NameSet
names_in p = set.union (set.union (names_listed p.criteria) (names_listed p.dev_criteria))
    (names_passed p.dependency_criteria)

-- whether a policy names a criterion
abbrev pub policy_names : Name → KeyedPolicy → Bool
policy_names name k = set.contains (names_in k.policy) name

-- policies stay known if one is set that names only known criteria
abbrev pub KnownWithSet : Type 0
KnownWithSet =
    (criteria : Criteria) (policies : List KeyedPolicy) (p : KeyedPolicy) → PoliciesAreKnown criteria policies
    → least_unknown criteria (names_in p.policy) ≡ None
    → PoliciesAreKnown criteria (with_item policy_key_cmp key_of policies p)

-- policies stay known if one is dropped
abbrev pub KnownWithoutDropped : Type 0
KnownWithoutDropped =
    (criteria : Criteria) (policies : List KeyedPolicy) (key : PolicyKey) → PoliciesAreKnown criteria policies
    → PoliciesAreKnown criteria (without_item policy_key_cmp key_of policies key)

-- policies stay known if a criterion is set
abbrev pub KnownByMoreCriteria : Type 0
KnownByMoreCriteria =
    (criteria : Criteria) (policies : List KeyedPolicy) (name : Name) (c : Criterion)
    → PoliciesAreKnown criteria policies
    → PoliciesAreKnown (map.insert criteria name c) policies

-- policies stay known if a criterion is removed that none of them names
abbrev pub KnownByFewerCriteria : Type 0
KnownByFewerCriteria =
    (criteria : Criteria) (policies : List KeyedPolicy) (name : Name) → list_any (policy_names name) policies ≡ false
    → PoliciesAreKnown criteria policies → PoliciesAreKnown (map.remove criteria name) policies
