-- What policies name, list by list, and when all of it stays known.
use Rattle.std.proofs.Common.{◌≡◌, ℕ, ◌<◌, ◌+◌, Bool, true, false, ◌||◌, cond, not, List, [], ◌∷◌, Option, Some, None}
use Rattle.std.proofs.Common.{◌&&◌, ◌↔◌, is_none, is_some, length, get_or, take, refl, sym, ap, ◌∙◌, inl, inr}
use Rattle.std.specs.FinMap as map
use Rattle.std.specs.FinSet as set
use Rattle.std.specs.List.{All, list_all, list_any}
use Rattle.std.specs.Ordering.{eq_by_cmp}
use Rattle.std.proofs.lemmas.Bool.{cases_Bool, cond-false, false≢true, or_cases, or_left, or_right}
use Rattle.std.proofs.lemmas.Cmp.{nat_list_cmp_total}
use Rattle.std.proofs.lemmas.List.Elements.{All-append, All-cons, All-filter, All-head, All-nil, All-tail}
use Rattle.std.proofs.lemmas.List.Folds.{list_any_at, list_any_more}
use Rattle.vet_base.proofs.LeastNames.{find-union, least_none, none_unknown}
use Rattle.vet_base.proofs.Rising.{R, equal-from_eq, only_equal}
use Rattle.vet_base.specs.Criteria.{Criteria, least_unknown}
use Rattle.vet_base.specs.Defined.{lesser}
use Rattle.vet_base.specs.Keyed.{is_before, is_behind, is_of, with_item, without_item}
use Rattle.vet_base.specs.Names.{NameSet}
use Rattle.vet_base.specs.declared.criterion.Criterion.{Criterion}
use Rattle.vet_demand.specs.DemandOf.{NamesAreKnown, PoliciesAreKnown, PolicyIsKnown}
use Rattle.vet_demand.specs.Policies.{key_of}
use Rattle.vet_demand.specs.PolicyKey.{policy_key_cmp}
use Rattle.vet_demand.specs.PolicyNames.{names_in, names_listed, names_passed, policy_names}
use Rattle.vet_demand.specs.declared.dependency_criteria.DependencyItem.{DependencyItem}
use Rattle.vet_demand.specs.declared.policies.KeyedPolicy.{KeyedPolicy}
use Rattle.vet_demand.specs.declared.policy.Policy.{Policy}
use Rattle.vet_demand.specs.declared.policy_key.PolicyKey.{PolicyKey}

-- ---- what the lists name

in_passed : (items : List DependencyItem) (x : List ℕ)
    → list_any (λ (i : DependencyItem). set.contains i.criteria x) items ≡ set.contains (names_passed items) x
in_passed [] x = sym (set.contains-empty R x)
in_passed (i ∷ rest) x = ap (λ b. set.contains i.criteria x || b) (in_passed rest x)
    ∙ sym (set.contains-union nat_list_cmp_total i.criteria (names_passed rest) x)

more_passed : (items : List DependencyItem) (k : ℕ) (i : DependencyItem) → k < length items → i ≡ get_or items k i
    → names_passed (take (k + 1) items) ≡ set.union (names_passed (take k items)) i.criteria
more_passed items k i l is = set.same_set nat_list_cmp_total only_equal _ _ (λ x.
    sym (in_passed (take (k + 1) items) x)
    ∙ list_any_more (λ (d : DependencyItem). set.contains d.criteria x) items k i l
    ∙ (λ j. in_passed (take k items) x j || set.contains (sym is j).criteria x)
    ∙ sym (set.contains-union nat_list_cmp_total (names_passed (take k items)) i.criteria x))

-- one more item, as at a step of a loop
pub least_passed_more : (table : Criteria) (items : List DependencyItem) (k : ℕ) (i : DependencyItem)
    → k < length items → i ≡ get_or items k i
    → lesser (least_unknown table (names_passed (take k items))) (least_unknown table i.criteria)
    ≡ least_unknown table (names_passed (take (k + 1) items))
least_passed_more table items k i l is =
    sym (ap (least_unknown table) (more_passed items k i l is)
    ∙ find-union (λ n. not (map.contains_key table n)) (names_passed (take k items)) i.criteria)

module _ (p : Policy) where
  pub in_lists : (x : List ℕ)
      → ((set.contains (names_listed p.criteria) x || set.contains (names_listed p.dev_criteria) x)
      || list_any (λ (i : DependencyItem). set.contains i.criteria x) p.dependency_criteria) ≡ set.contains
      (names_in p) x
  in_lists x =
      let own = names_listed p.criteria in
      let dev = names_listed p.dev_criteria in
      ap (λ b. (set.contains own x || set.contains dev x) || b) (in_passed p.dependency_criteria x)
      ∙ sym (set.contains-union nat_list_cmp_total (set.union own dev) (names_passed p.dependency_criteria) x
      ∙ ap (λ b. b || set.contains (names_passed p.dependency_criteria) x)
      (set.contains-union nat_list_cmp_total own dev x))

  pub least-names_in : (table : Criteria)
      → lesser (lesser (least_unknown table (names_listed p.criteria))
      (least_unknown table (names_listed p.dev_criteria)))
      (least_unknown table (names_passed p.dependency_criteria))
      ≡ least_unknown table (names_in p)
  least-names_in table =
      let own = names_listed p.criteria in
      let dev = names_listed p.dev_criteria in
      let passed = names_passed p.dependency_criteria in
      let unknown : List ℕ → Bool = λ n. not (map.contains_key table n) in
      sym (find-union unknown (set.union own dev) passed ∙ ap (λ o. lesser o (least_unknown table passed))
      (find-union unknown own dev))

-- ---- a policy is known just where each name in it is

module _ (criteria : Criteria) where
  listed_known : (o : Option NameSet) → NamesAreKnown criteria o → (n : List ℕ)
      → set.contains (names_listed o) n ≡ true → map.contains_key criteria n ≡ true
  listed_known None known n h = absurd (false≢true (sym (set.contains-empty R n) ∙ h))
  listed_known (Some list) known n h = known list refl n h

  passed_known : (items : List DependencyItem)
      → All (λ (i : DependencyItem). NamesAreKnown criteria (Some i.criteria)) items
      → (n : List ℕ) → set.contains (names_passed items) n ≡ true → map.contains_key criteria n ≡ true
  passed_known [] known n h = absurd (false≢true (sym (set.contains-empty R n) ∙ h))
  passed_known (i ∷ rest) known n h =
      elim (or_cases _ _ (sym (set.contains-union nat_list_cmp_total i.criteria (names_passed rest) n) ∙ h)) [
        | inl here ↦ All-head (λ (i : DependencyItem). NamesAreKnown criteria (Some i.criteria))
            i rest known i.criteria refl n here
        | inr later ↦ passed_known rest (All-tail (λ (i : DependencyItem). NamesAreKnown criteria (Some i.criteria))
            i rest known) n later
      ]

  names_known : (p : Policy) → PolicyIsKnown criteria p → (n : List ℕ) → set.contains (names_in p) n ≡ true
      → map.contains_key criteria n ≡ true
  names_known p known n h =
      elim (or_cases (set.contains (names_listed p.criteria) n || set.contains (names_listed p.dev_criteria) n)
      (list_any (λ (i : DependencyItem). set.contains i.criteria n) p.dependency_criteria) (in_lists p n ∙ h)) [
        | inl listed ↦ elim (or_cases _ _ listed) [
          | inl own ↦ listed_known p.criteria known.own n own
          | inr dev ↦ listed_known p.dev_criteria known.dev n dev
        ]
        | inr passed ↦ passed_known p.dependency_criteria known.dependencies n
            (sym (in_passed p.dependency_criteria n) ∙ passed)
      ]

  policy_known : (p : Policy) → ((n : List ℕ) → set.contains (names_in p) n ≡ true
      → map.contains_key criteria n ≡ true) → PolicyIsKnown criteria p
  policy_known p known =
      record {
        own = λ list e n h. known n (sym (in_lists p n)
            ∙ or_left _ _ (or_left _ _ (ap (λ o. set.contains (names_listed o) n) e ∙ h)));
        dev = λ list e n h. known n (sym (in_lists p n)
            ∙ or_left _ _ (or_right (set.contains (names_listed p.criteria) n) _
            (ap (λ o. set.contains (names_listed o) n) e ∙ h)));
        dependencies = λ k d l list e n h. known n (sym (in_lists p n)
            ∙ or_right (set.contains (names_listed p.criteria) n || set.contains (names_listed p.dev_criteria) n) _
            (list_any_at (λ (i : DependencyItem). set.contains i.criteria n) p.dependency_criteria k d l
            (ap (λ o. set.contains (names_listed o) n) e ∙ h)));
      }

-- whether each name of each policy is known
abbrev pub all_known : Criteria → List KeyedPolicy → Bool
all_known criteria = list_all (λ (k : KeyedPolicy). is_none (least_unknown criteria (names_in k.policy)))

pub known-Decides : (criteria : Criteria) (policies : List KeyedPolicy) → all_known criteria policies ≡ true
    ↔ PoliciesAreKnown criteria policies
known-Decides criteria [] = (λ t. All-nil _, λ known. refl)
known-Decides criteria (k ∷ policies) =
    by (least_unknown criteria (names_in k.policy)) refl (known-Decides criteria policies)
  where
    all_there : (names : NameSet) → ((n : List ℕ) → set.contains names n ≡ true → map.contains_key criteria n ≡ true)
        → (n : List ℕ) → least_unknown criteria names ≡ Some n → ⊥
    all_there names its n least = (let same = sym least ∙ least_none criteria names its in cc same)

    by : (o : Option (List ℕ)) → least_unknown criteria (names_in k.policy) ≡ o
        → (all_known criteria policies ≡ true ↔ PoliciesAreKnown criteria policies)
        → (is_none o && all_known criteria policies) ≡ true ↔ PoliciesAreKnown criteria (k ∷ policies)
    by None none rest = (
      λ t. All-cons (λ (p : KeyedPolicy). PolicyIsKnown criteria p.policy) k policies
          (policy_known criteria k.policy (none_unknown criteria (names_in k.policy) none)) (rest.0 t),
      λ known. rest.1 (All-tail (λ (p : KeyedPolicy). PolicyIsKnown criteria p.policy) k policies known),
    )
    by (Some n) least rest = (
      λ t. absurd (false≢true t),
      λ known.
          (let its = names_known criteria k.policy
          (All-head (λ (p : KeyedPolicy). PolicyIsKnown criteria p.policy) k policies known) in
          absurd (all_there (names_in k.policy) its n least)),
    )

-- ---- what keeps policies known

module _ (criteria : Criteria) (policies : List KeyedPolicy) (known : PoliciesAreKnown criteria policies) where
  IsKnown : KeyedPolicy → Type 0
  IsKnown k = PolicyIsKnown criteria k.policy

  pub known_with : (p : KeyedPolicy) → least_unknown criteria (names_in p.policy) ≡ None
      → PoliciesAreKnown criteria (with_item policy_key_cmp key_of policies p)
  unfolding IsKnown
  known_with p none =
      All-append IsKnown _ _ (All-filter (is_before policy_key_cmp key_of p.key) IsKnown policies known)
      (All-cons IsKnown p _ (policy_known criteria p.policy (none_unknown criteria (names_in p.policy) none))
      (All-filter (is_behind policy_key_cmp key_of p.key) IsKnown policies known))

  pub known_without : (key : PolicyKey) → PoliciesAreKnown criteria (without_item policy_key_cmp key_of policies key)
  unfolding IsKnown
  known_without key = All-filter (λ k. not (is_of policy_key_cmp key_of key k)) IsKnown policies known

  pub known_by_more : (name : List ℕ) (c : Criterion) → PoliciesAreKnown (map.insert criteria name c) policies
  known_by_more name c k d l =
      let p = (get_or policies k d).policy in
      policy_known (map.insert criteria name c) p (λ n h.
      ap is_some (map.get-insert nat_list_cmp_total criteria name c n)
      ∙ still (eq_by_cmp R n name) (map.get criteria n) (names_known criteria p (known k d l) n h))
    where
      still : (b : Bool) (o : Option Criterion) → is_some o ≡ true
          → is_some (let r : Option Criterion = cond b (Some c) o in r) ≡ true
      still true o h = refl
      still false o h = h

  pub known_by_fewer : (name : List ℕ) → list_any (policy_names name) policies ≡ false
      → PoliciesAreKnown (map.remove criteria name) policies
  known_by_fewer name free k d l =
      let p = (get_or policies k d).policy in
      policy_known (map.remove criteria name) p (λ n h. elim (cases_Bool (eq_by_cmp R n name)) [
        | inl same ↦ absurd (false≢true (sym free
            ∙ list_any_at (policy_names name) policies k d l
            (ap (set.contains (names_in p)) (sym (equal-from_eq n name same)) ∙ h)))
        | inr other ↦ ap is_some (map.get-remove nat_list_cmp_total criteria name n
            ∙ cond-false (eq_by_cmp R n name) None (map.get criteria n) other)
            ∙ names_known criteria p (known k d l) n h
      ])
