-- Policies of which a table has each name.
use Rattle.std.proofs.Common.{◌≡◌, ℕ, ◌<◌, ◌+◌, List, [], None, length, get_or, take, sym, ap, ◌∙◌}
use Rattle.std.proofs.lemmas.List.Elements.{All-head, All-more, All-nil}
use Rattle.vet_base.specs.Criteria.{Criteria, least_unknown}
use Rattle.vet_demand.specs.DemandOf.{PoliciesAreKnown, PolicyIsKnown}
use Rattle.vet_demand.specs.PolicyNames.{names_in}
use Rattle.vet_demand.specs.declared.policies.KeyedPolicy.{KeyedPolicy}
use Rattle.vet_demand.proofs.Naming.{known_with}

-- one that lacks none of its names is known
one_known : (criteria : Criteria) (k : KeyedPolicy) → least_unknown criteria (names_in k.policy) ≡ None →
    PolicyIsKnown criteria k.policy
one_known criteria k none =
    All-head (λ (h : KeyedPolicy). PolicyIsKnown criteria h.policy) k []
    (known_with criteria [] (All-nil (λ (h : KeyedPolicy). PolicyIsKnown criteria h.policy)) k none)

-- and so is one more of a list
pub known_more : (criteria : Criteria) (policies : List KeyedPolicy) (i : ℕ) (k : KeyedPolicy) → i < length policies →
    k ≡ get_or policies i k
    → PoliciesAreKnown criteria (take i policies) → least_unknown criteria (names_in k.policy) ≡ None →
    PoliciesAreKnown criteria (take (i + 1) policies)
known_more criteria policies i k l is known none =
    All-more (λ (h : KeyedPolicy). PolicyIsKnown criteria h.policy) policies i k l known
    (one_known criteria (get_or policies i k)
    (ap (λ (h : KeyedPolicy). least_unknown criteria (names_in h.policy)) (sym is) ∙ none))
