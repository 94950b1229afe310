-- How the demanded pairs come together.
use Rattle.std.proofs.Common.{◌≡◌, ◌⊎◌, ◌↔◌, ℕ, ◌+◌, ◌<◌, Bool, true, false, cond, List, [], ◌∷◌, ◌++◌, Option, Bor}
use Rattle.std.proofs.Common.{length, get_or, Less, refl, sym, ap, subst, ◌∙◌, inl, inr, arith}
use Rattle.std.specs.FinMap as map
use Rattle.std.specs.FinSet as places
use Rattle.std.specs.Cmp.Lexicographic.{slice_cmp}
use Rattle.std.specs.List.{All, Contains}
use Rattle.std.specs.Ordering.{nat_cmp}
use Rattle.std.specs.Option.{option_copied}
use Rattle.std.proofs.lemmas.Bool.{cases_eq}
use Rattle.std.proofs.lemmas.List.{get_or_default}
use Rattle.std.proofs.lemmas.List.Elements.{All-contains, Contains-append_left, Contains-get_or, Contains-push}
use Rattle.std.proofs.lemmas.List.Elements.{Contains-push_cases}
use Rattle.std.proofs.lemmas.List.Quantifiers.{all_pairs_push}
use Rattle.vet_base.specs.Criteria.{Criteria, IsTable}
use Rattle.vet_base.specs.CriteriaSet.{Places, has}
use Rattle.vet_base.specs.Names.{IsRising}
use Rattle.vet_demand.proofs.DemandLaws.{key_held}
use Rattle.vet_demand.proofs.Flowing.{node_is, policy_at}
use Rattle.vet_demand.proofs.KnownLists.{needed_known}
use Rattle.vet_demand.proofs.PairsInOrder.{later_name}
use Rattle.vet_demand.specs.Collected.{Adds, AddsInOrder, IsAuditedPair, IsPairOf}
use Rattle.vet_demand.specs.DemandOf.{IsDemandedIn, PoliciesAreKnown, is_audited, is_audited_node, pair_of}
use Rattle.vet_demand.specs.Flow.{AreNeeds, ArePoliciesOf}
use Rattle.vet_demand.specs.Needs.{IsNeeded, node_at}
use Rattle.vet_demand.specs.Pair.{IsInOrder, pair_cmp}
use Rattle.vet_demand.specs.Project.{ProjectValue}
use Rattle.vet_demand.specs.declared.pair.Pair.{Pair}
use Rattle.vet_demand.specs.declared.policies.KeyedPolicy.{KeyedPolicy}
use Rattle.vet_demand.specs.declared.policy.Policy.{Policy}
use Rattle.vet_demand.specs.declared.project.Node.{Node}

-- ---- the pairs of a node

in_next : (needed : Bool) (mid : List Pair) (x q : Pair) → Contains mid q → Contains (cond needed (mid ++ x ∷ []) mid) q
in_next true mid x q w = Contains-append_left mid (x ∷ []) q w
in_next false mid x q w = w

new_next : (needed : Bool) (mid : List Pair) (x : Pair) → needed ≡ true → Contains (cond needed (mid ++ x ∷ []) mid) x
new_next true mid x h = Contains-push mid x
new_next false mid x h = cc h

next_cases : (needed : Bool) (mid : List Pair) (x q : Pair) → Contains (cond needed (mid ++ x ∷ []) mid) q
    → Contains mid q ⊎ ((needed ≡ true) × (x ≡ q))
next_cases true mid x q w = elim (Contains-push_cases mid x q w) [ inl was ↦ inl was | inr same ↦ inr (refl, same) ]
next_cases false mid x q w = inl w

-- one name more
pair_next : (node : Node) (names : List (List ℕ)) (set : Places) (i : ℕ) (name : List ℕ) (needed : Bool)
    (old mid new : List Pair) → i < length names
    → Adds (IsPairOf node names set i) old mid → name ≡ get_or names i name → needed ≡ has i set
    → new ≡ cond needed (mid ++ pair_of node name ∷ []) mid
    → Adds (IsPairOf node names set (i + 1)) old new
pair_next node names set i name needed old mid new low so_far at tells is q =
    let named : name ≡ get_or names i [] = at ∙ get_or_default names i name [] low in (
      λ w. elim (next_cases needed mid (pair_of node name) q (subst (λ l. Contains l q) is w)) [
        | inl was ↦ elim ((so_far q).0 was) [
          | inl before ↦ inl before
          | inr one ↦ inr (one.0, omega (arith, one.1), one.2, one.3)
        ]
        | inr here ↦ inr (i, omega arith, sym tells ∙ here.0, ap (pair_of node) (sym named) ∙ here.1)
      ],
      λ h. subst (λ l. Contains l q) (sym is) (elim h [
        | inl before ↦ in_next needed mid (pair_of node name) q ((so_far q).1 (inl before))
        | inr one ↦ elim (cases_eq one.0 i) [
          | inl same ↦ subst (Contains (cond needed (mid ++ pair_of node name ∷ []) mid))
              (ap (pair_of node) (named ∙ ap (λ p. get_or names p []) (sym same)) ∙ one.3)
              (new_next needed mid (pair_of node name) (tells ∙ ap (λ p. has p set) (sym same) ∙ one.2))
          | inr differs ↦ in_next needed mid (pair_of node name) q
              ((so_far q).1 (inr (one.0, omega (arith, one.1, differs), one.2, one.3)))
        ]
      ]),
    )

-- no name yet
pub pairs_none : (node : Node) (names : List (List ℕ)) (set : Places) (old : List Pair)
    → AddsInOrder node names set 0 old old
pairs_none node names set old = record {
  adds = λ q. (λ w. inl w, λ h. elim h [ inl before ↦ before | inr one ↦ absurd (omega (arith, one.1)) ]);
  rises = λ up before. up;
}

-- one name more, which comes behind those before it
pub pair_behind : (node : Node) (names : List (List ℕ)) (set : Places) (i : ℕ) (name : List ℕ) (needed : Bool)
    (old mid new : List Pair) → IsRising names → i < length names
    → AddsInOrder node names set i old mid → name ≡ get_or names i name → needed ≡ has i set
    → new ≡ cond needed (mid ++ pair_of node name ∷ []) mid
    → AddsInOrder node names set (i + 1) old new
pair_behind node names set i name needed old mid new rising low so_far at tells is =
    let x = pair_of node name in
    let last : IsInOrder old → All (λ q. (c : List ℕ) → pair_cmp q (pair_of node c) ≡ Less) old
    → All (λ q. pair_cmp q x ≡ Less) mid =
    λ up before k d l. elim ((so_far.adds (get_or mid k d)).0 (Contains-get_or mid k d l)) [
      | inl was ↦ All-contains (λ q. (c : List ℕ) → pair_cmp q (pair_of node c) ≡ Less) old (get_or mid k d)
          before was name
      | inr one ↦ subst (λ q. pair_cmp q x ≡ Less) one.3
          (later_name node (get_or names one.0 []) name
          (subst (λ n. slice_cmp nat_cmp (get_or names one.0 []) n ≡ Less)
          (sym (at ∙ get_or_default names i name [] low)) (rising one.0 i [] one.1 low)))
    ] in
    record {
      adds = pair_next node names set i name needed old mid new low so_far.adds at tells is;
      rises = λ up before. subst IsInOrder (sym is) (next needed mid x (so_far.rises up before) (last up before));
    }
  where
    next : (needed : Bool) (mid : List Pair) (x : Pair) → IsInOrder mid → All (λ q. pair_cmp q x ≡ Less) mid
        → IsInOrder (cond needed (mid ++ x ∷ []) mid)
    next true mid x up behind = all_pairs_push (λ p q. pair_cmp p q ≡ Less) mid x up behind
    next false mid x up behind = up

-- ---- the nodes of a project

module _ (policies : List KeyedPolicy) (criteria : Criteria) (table : IsTable criteria)
    (known : PoliciesAreKnown criteria policies) (project : ProjectValue) (found : List (Option (Bor Policy)))
    (needs : List Places)
    (names : List (List ℕ)) (of : ArePoliciesOf policies project.nodes found)
    (are : AreNeeds policies criteria project needs) (keys : names ≡ map.keys criteria)
    (i : ℕ) (node : Node) (policy : Option (Bor Policy)) (set : Places) (low : i < length project.nodes)
    (at : node ≡ get_or project.nodes i node) (by : policy ≡ get_or found i policy)
    (stands : set ≡ get_or needs i set) where
  there : node ≡ node_at project.nodes i
  there = node_is project.nodes i node low at

  audits : is_audited node.party (option_copied policy) ≡ is_audited_node policies (node_at project.nodes i)
  audits = λ j. is_audited (there j).party (policy_at policies project.nodes found i node policy of low at by j)

  set_is : set ≡ get_or needs i places.empty
  set_is = stands ∙ get_or_default needs i set places.empty (omega (arith, low, are.count))

  demanded_from : (q : Pair) → IsAuditedPair node (option_copied policy) names set q
      → IsDemandedIn policies criteria project q i
  demanded_from q (audited, (p, l, h, e)) =
      let name_is : get_or (map.keys criteria) p [] ≡ q.criterion =
      ap (λ (l : List (List ℕ)). get_or l p []) (sym keys) ∙ ap (λ (x : Pair). x.criterion) e in
      record {
        within = low;
        audited = sym audits ∙ audited;
        needed = subst (λ c. IsNeeded policies criteria project c i) name_is
            ((are.least p i (subst (λ (l : List (List ℕ)). p < length l) keys l) low).0 (ap (has p) (sym set_is) ∙ h));
        is = (λ j. pair_of (sym there j) (sym (ap (λ (x : Pair). x.criterion) e) j)) ∙ e;
      }

  audited_from : (q : Pair) → IsDemandedIn policies criteria project q i
      → IsAuditedPair node (option_copied policy) names set q
  audited_from q h =
      let key = key_held criteria q.criterion
      (needed_known criteria table policies known project q.criterion i h.needed) in
      let p = key.0 in
      let name_is : get_or (map.keys criteria) p [] ≡ q.criterion =
      get_or_default (map.keys criteria) p [] q.criterion key.1 ∙ key.2 in (
        audits ∙ h.audited,
        (
          p,
          subst (λ (l : List (List ℕ)). p < length l) (sym keys) key.1,
          ap (has p) set_is ∙ (are.least p i key.1 low).1 (subst (λ c. IsNeeded policies criteria project c i)
              (sym name_is) h.needed),
          (λ j. pair_of (there j) ((ap (λ (l : List (List ℕ)). get_or l p []) keys ∙ name_is) j)) ∙ h.is,
        ),
      )

  -- what is asked for at a node
  pub audited-iff : (q : Pair) → IsAuditedPair node (option_copied policy) names set q
      ↔ IsDemandedIn policies criteria project q i
  audited-iff q = (demanded_from q, audited_from q)
