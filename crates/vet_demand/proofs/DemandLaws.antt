-- The function of the demand tells the least demand.
use Rattle.std.proofs.Common.{◌≡◌, ◌↔◌, ℕ, true, List, [], ◌∷◌, length, refl, sym, ap, subst, ◌∙◌, inl, inr, arith}
use Rattle.std.specs.FinMap as map
use Rattle.std.specs.List.{Contains, flat_map, range_with_len}
use Rattle.std.specs.Ordering.{eq_by_cmp, nat_cmp}
use Rattle.std.specs.Cmp.Lexicographic.{slice_cmp}
use Rattle.std.specs.Prelude.{if◌then◌else◌}
use Rattle.std.proofs.lemmas.List.Elements.{All-contains_itself}
use Rattle.vet_base.specs.Criteria.{Criteria, IsTable}
use Rattle.vet_base.proofs.Rising.{eq-itself, equal-from_eq}
use Rattle.vet_demand.proofs.KnownLists.{needed_known}
use Rattle.vet_demand.proofs.Lists.{any_from, below_range, from_any, from_flat_map, from_if, in_none, in_range}
use Rattle.vet_demand.proofs.Lists.{to_flat_map, to_if}
use Rattle.vet_base.proofs.ListLemmas.{Contains-cons_cases}
use Rattle.vet_demand.proofs.NeedsLaws.{needs-iff}
use Rattle.vet_demand.proofs.PairsInOrder.{in_order-AreThePairs, same_pairs}
use Rattle.vet_demand.specs.DemandOf.{HasDemanded, IsDemanded, IsDemandedIn, IsLeastDemand, PoliciesAreKnown, demand_of}
use Rattle.vet_demand.specs.DemandOf.{is_audited_node, pair_of, pairs_at, pairs_in}
use Rattle.vet_demand.specs.Needs.{is_needed, node_at}
use Rattle.vet_demand.specs.Pair.{IsInOrder}
use Rattle.vet_demand.specs.Project.{ProjectValue}
use Rattle.vet_demand.specs.declared.pair.Pair.{Pair}
use Rattle.vet_demand.specs.declared.policies.KeyedPolicy.{KeyedPolicy}
use Rattle.vet_demand.specs.declared.project.NamedProject.{NamedProject}

-- a name is among a table's names just where the table has it
pub key_held : (criteria : Criteria) (c : List ℕ) → map.contains_key criteria c ≡ true → Contains (map.keys criteria) c
key_held criteria c h =
    let r = from_any (eq_by_cmp (slice_cmp nat_cmp) c) (map.keys criteria) (sym (map.contains_key-keys criteria c)
    ∙ h) in
    subst (Contains (map.keys criteria)) (sym (equal-from_eq c r.0 r.2)) r.1

has_key : (criteria : Criteria) (c : List ℕ) → Contains (map.keys criteria) c → map.contains_key criteria c ≡ true
has_key criteria c h = map.contains_key-keys criteria c ∙ any_from (eq_by_cmp (slice_cmp nat_cmp) c)
    (map.keys criteria) c h (eq-itself c)

module _ (policies : List KeyedPolicy) (criteria : Criteria) (project : ProjectValue) where
  from_pairs_at : (place : ℕ) (p : Pair) → Contains (pairs_at policies criteria project place) p
      → Contains (map.keys criteria) p.criterion × (is_needed policies criteria project p.criterion place ≡ true)
      × (pair_of (node_at project.nodes place) p.criterion ≡ p)
  from_pairs_at place p held =
      let r = from_flat_map (λ c. if is_needed policies criteria project c place then pair_of
      (node_at project.nodes place) c ∷ [] else []) (map.keys criteria) p held in
      let inner = from_if (is_needed policies criteria project r.0 place)
      (pair_of (node_at project.nodes place) r.0 ∷ []) p r.2 in
      let is : pair_of (node_at project.nodes place) r.0 ≡ p =
      elim (Contains-cons_cases (pair_of (node_at project.nodes place) r.0) [] p inner.1) [
        | inl same ↦
            same
        | inr none ↦ in_none p none
      ] in
      let at : r.0 ≡ p.criterion = ap (λ (q : Pair). q.criterion) is in (
        subst (Contains (map.keys criteria)) at r.1,
        subst (λ c. is_needed policies criteria project c place ≡ true) at inner.0,
        ap (pair_of (node_at project.nodes place)) (sym at) ∙ is,
      )

  to_pairs_at : (place : ℕ) (p : Pair) → Contains (map.keys criteria) p.criterion
      → is_needed policies criteria project p.criterion place ≡ true
      → pair_of (node_at project.nodes place) p.criterion ≡ p → Contains (pairs_at policies criteria project place) p
  to_pairs_at place p key needed is =
      to_flat_map (λ c. if is_needed policies criteria project c place then pair_of (node_at project.nodes place)
      c ∷ [] else []) (map.keys criteria) p.criterion p key
      (to_if (is_needed policies criteria project p.criterion place)
      (pair_of (node_at project.nodes place) p.criterion ∷ []) p needed
      (0, omega arith, is))

  from_pairs_in : (p : Pair) → Contains (pairs_in policies criteria project) p
      → Contains (map.keys criteria) p.criterion × ((place : ℕ) × IsDemandedIn policies criteria project p place)
  from_pairs_in p held =
      let r = from_flat_map (λ place. if is_audited_node policies (node_at project.nodes place)
      then pairs_at policies criteria project place else [])
      (range_with_len 0 (length project.nodes)) p held in
      let inner = from_if (is_audited_node policies (node_at project.nodes r.0))
      (pairs_at policies criteria project r.0) p r.2 in
      let at = from_pairs_at r.0 p inner.1 in (
        at.0,
        (
          r.0,
          record {
            within = below_range (length project.nodes) r.0 r.1;
            audited = inner.0;
            needed = (needs-iff policies criteria project p.criterion r.0).0 at.1;
            is = at.2;
          },
        ),
      )

  to_pairs_in : (p : Pair) (place : ℕ) → Contains (map.keys criteria) p.criterion
      → IsDemandedIn policies criteria project p place → Contains (pairs_in policies criteria project) p
  to_pairs_in p place key h =
      to_flat_map (λ place. if is_audited_node policies (node_at project.nodes place)
      then pairs_at policies criteria project place else [])
      (range_with_len 0 (length project.nodes)) place p (in_range (length project.nodes) place h.within)
      (to_if (is_audited_node policies (node_at project.nodes place)) (pairs_at policies criteria project place)
      p h.audited
      (to_pairs_at place p key ((needs-iff policies criteria project p.criterion place).1 h.needed) h.is))

module _ (projects : List NamedProject) (policies : List KeyedPolicy) (criteria : Criteria) where
  from_demand : (p : Pair) → Contains (demand_of projects policies criteria) p
      → Contains (map.keys criteria) p.criterion × IsDemanded projects policies criteria p
  unfolding demand_of
  from_demand p held =
      let r = from_flat_map (λ (named : NamedProject). pairs_in policies criteria named.project) projects p
      (((in_order-AreThePairs (flat_map (λ (named : NamedProject). pairs_in policies criteria named.project)
      projects)).same p).0 held) in
      let inner = from_pairs_in policies criteria r.0.project p r.2 in
      (inner.0, (r.0, r.1, inner.1))

  to_demand : (p : Pair) → Contains (map.keys criteria) p.criterion → IsDemanded projects policies criteria p
      → Contains (demand_of projects policies criteria) p
  unfolding demand_of
  to_demand p key h =
      ((in_order-AreThePairs (flat_map (λ (named : NamedProject). pairs_in policies criteria named.project)
      projects)).same p).1
      (to_flat_map (λ (named : NamedProject). pairs_in policies criteria named.project) projects h.0 p h.1
      (to_pairs_in policies criteria h.0.project p h.2.0 key h.2.1))

  pub demand_in_order : IsInOrder (demand_of projects policies criteria)
  unfolding demand_of
  demand_in_order = (in_order-AreThePairs
      (flat_map (λ (named : NamedProject). pairs_in policies criteria named.project) projects)).in_order

  demand-iff : IsTable criteria → PoliciesAreKnown criteria policies → (p : Pair)
      → Contains (demand_of projects policies criteria) p ↔ IsDemanded projects policies criteria p
  demand-iff table known p = (
    λ held. (from_demand p held).1,
    λ h. to_demand p (key_held criteria p.criterion
        (needed_known criteria table policies known h.0.project p.criterion h.2.0 h.2.1.needed)) h,
  )

  pub demand_is_least : IsTable criteria → PoliciesAreKnown criteria policies
      → IsLeastDemand projects policies criteria (demand_of projects policies criteria)
  demand_is_least table known = record { in_order = demand_in_order; same = demand-iff table known }

  pub least_is_demand : (demand : List Pair) → IsTable criteria → PoliciesAreKnown criteria policies
      → IsLeastDemand projects policies criteria demand → demand ≡ demand_of projects policies criteria
  least_is_demand demand table known h =
      same_pairs demand (demand_of projects policies criteria) h.in_order demand_in_order
      (λ p held. (demand-iff table known p).1 ((h.same p).0 held))
      (λ p held. (h.same p).1 ((demand-iff table known p).0 held))

  pub demanded_known : HasDemanded criteria (demand_of projects policies criteria)
  demanded_known k d low = has_key criteria _
      (from_demand _ (All-contains_itself (demand_of projects policies criteria) k d low)).0

pub nothing_demanded : (policies : List KeyedPolicy) (criteria : Criteria) → demand_of [] policies criteria ≡ []
unfolding demand_of
nothing_demanded policies criteria = refl
