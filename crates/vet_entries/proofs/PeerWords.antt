-- What the words of a peer are in one's own table, criterion by criterion.
use Rattle.std.proofs.Common.{◌≡◌, ℕ, ◌<◌, ◌↔◌, true, false, ◌||◌, List, [], ◌∷◌, length, get_or, Option, Some, None}
use Rattle.std.proofs.Common.{refl, sym, ap, ◌∙◌, inl, inr}
use Rattle.std.specs.List.{list_any}
use Rattle.std.specs.Option.{option_map_or, is_some}
use Rattle.std.specs.Cmp.{both_ways}
use Rattle.std.specs.FinSet as set
use Rattle.std.specs.FinMap as map
use Rattle.std.proofs.lemmas.Cmp.{nat_list_cmp_total}
use Rattle.std.proofs.lemmas.Bool.{cases_Bool, cond-false, cond-true, false≢true, or_cases, or_left, or_right}
use Rattle.vet_base.specs.declared.criterion.Criterion.{Criterion}
use Rattle.vet_base.specs.Criteria.{Criteria, InClosure, closure_of, implied_by, place_of, placed}
use Rattle.vet_base.specs.Criteria.InClosure.{named, implied}
use Rattle.vet_base.specs.CriteriaSet.{Places, has}
use Rattle.vet_base.specs.Names.{NameSet, members}
use Rattle.vet_base.specs.CriteriaSetLaws.{same_places}
use Rattle.vet_base.proofs.Closing.{alone, closure-law, for_all, from_one, in_alone, only_alone}
use Rattle.vet_base.proofs.Rising.{R, only_equal}
use Rattle.vet_base.proofs.Tables.{at_place, contains-placed_at, missing_place}
use Rattle.vet_entries.specs.CriteriaMap.{NamesByName}
use Rattle.vet_entries.specs.LocalCriteria.{all_beyond, direct, mapped_beyond}
use Rattle.vet_entries.specs.Mapped.{mapped, mapped_name}
use Rattle.vet_entries.proofs.MappedNames.{has-placed_union, in_placed, mapped_from, mapped_to, none_placed, one_passes}
use Rattle.vet_entries.proofs.MappedNames.{passes, placed_along, placed_parts}

-- ---- one name

pub mapped_alone : (m : NamesByName) (n : List ℕ) → mapped m (alone n) ≡ mapped_name m n
mapped_alone m n = set.same_set nat_list_cmp_total only_equal _ _ (λ x. both_ways _ _
    (λ h. (let from = mapped_from m (alone n) x h in ap (λ k. set.contains (mapped_name m k) x)
    (sym (only_alone n from.0 from.1)) ∙ from.2))
    (λ h. mapped_to m (alone n) n x (in_alone n) h))

module _ (defined : Criteria) where
  pub place_found : (n : List ℕ) → map.contains_key defined n ≡ true → (p : ℕ) × (place_of defined n ≡ Some p)
  place_found n held = by (place_of defined n) refl
    where
      by : (o : Option ℕ) → place_of defined n ≡ o → (p : ℕ) × (place_of defined n ≡ Some p)
      by None e = absurd (false≢true (sym (missing_place defined n e) ∙ held))
      by (Some p) e = (p, e)

  -- what implies something is defined
  implies_defined : (m x : List ℕ) → set.contains (implied_by defined m) x ≡ true → map.contains_key defined m ≡ true
  implies_defined m x = by (map.get defined m) refl
    where
      by : (o : Option Criterion) → map.get defined m ≡ o → set.contains (option_map_or (λ c. c.implies) o set.empty) x
          ≡ true → map.contains_key defined m ≡ true
      by None e h = absurd (false≢true (sym (set.contains-empty R x) ∙ h))
      by (Some c) e h = ap is_some e

  -- a name that is not defined implies nothing beside itself
  only_itself : (n : List ℕ) → map.contains_key defined n ≡ false → (x : List ℕ) → InClosure defined (alone n) x
      → set.contains (alone n) x ≡ true
  only_itself n none x (named h) = h
  only_itself n none x (implied {m = m} r h) =
      absurd (false≢true (sym none ∙ ap (map.contains_key defined) (sym (only_alone n m (only_itself n none m r)))
      ∙ implies_defined m x h))

  pub closure_of_undefined : (n : List ℕ) → map.contains_key defined n ≡ false → closure_of defined (alone n) ≡ alone n
  closure_of_undefined n none = set.same_set nat_list_cmp_total only_equal _ _ (λ x. both_ways _ _
      (λ h. only_itself n none x ((closure-law defined (alone n) x).0 h))
      (λ h. (closure-law defined (alone n) x).1 (named h)))

  -- a name in the closure of a defined one that is not defined is implied by one of it
  implied_there : (n x : List ℕ) → map.contains_key defined n ≡ true → map.contains_key defined x ≡ false
      → InClosure defined (alone n) x
      → (m : List ℕ) × (set.contains (closure_of defined (alone n)) m ≡ true)
      × (set.contains (implied_by defined m) x ≡ true)
  implied_there n x held none (named h) =
      absurd (false≢true (sym none ∙ ap (map.contains_key defined) (only_alone n x h) ∙ held))
  implied_there n x held none (implied {m = m} r h) = (m, (closure-law defined (alone n) m).1 r, h)

  -- ---- what those of some names stand for that are not defined

  module _ (m : NamesByName) where
    contains-all_beyond : (xs : List (List ℕ)) (x : List ℕ) → set.contains (all_beyond defined m xs) x
        ≡ list_any (λ n. set.contains (mapped_beyond defined m n) x) xs
    contains-all_beyond [] x = set.contains-empty R x
    contains-all_beyond (n ∷ rest) x =
        set.contains-union nat_list_cmp_total (mapped_beyond defined m n) (all_beyond defined m rest) x
        ∙ ap (λ b. set.contains (mapped_beyond defined m n) x || b) (contains-all_beyond rest x)

    -- the places of these, name by name
    pub has-all_beyond : (table : Criteria) (xs : List (List ℕ)) (q : ℕ)
        → has q (placed table (all_beyond defined m xs))
        ≡ list_any (λ n. has q (placed table (mapped_beyond defined m n))) xs
    has-all_beyond table [] q = none_placed table q
    has-all_beyond table (n ∷ rest) q =
        has-placed_union table (mapped_beyond defined m n) (all_beyond defined m rest) q
        ∙ ap (λ b. has q (placed table (mapped_beyond defined m n)) || b) (has-all_beyond table rest q)

    pub beyond_held : (n : List ℕ) → map.contains_key defined n ≡ true → mapped_beyond defined m n ≡ set.empty
    beyond_held n held = cond-true (map.contains_key defined n) set.empty (mapped_name m n) held

    pub beyond_missing : (n : List ℕ) → map.contains_key defined n ≡ false → mapped_beyond defined m n ≡ mapped_name m n
    beyond_missing n none = cond-false (map.contains_key defined n) set.empty (mapped_name m n) none

    beyond_from : (n x : List ℕ) → set.contains (mapped_beyond defined m n) x ≡ true
        → set.contains (mapped_name m n) x ≡ true
    beyond_from n x h = elim (cases_Bool (map.contains_key defined n)) [
      | inl held ↦ absurd (false≢true
          (sym (set.contains-empty R x) ∙ ap (λ s. set.contains s x) (sym (beyond_held n held)) ∙ h))
      | inr none ↦ ap (λ s. set.contains s x) (sym (beyond_missing n none)) ∙ h
    ]

    -- ---- a defined name stands for what is direct to each criterion that it implies

    module _ (n : List ℕ) where
      direct_to : (r : ℕ) (x : List ℕ) → has r (placed defined (closure_of defined (alone n))) ≡ true
          → set.contains (direct defined m (get_or (map.keys defined) r [])) x ≡ true
          → set.contains (mapped m (closure_of defined (alone n))) x ≡ true
      direct_to r x at h =
          let k = get_or (map.keys defined) r [] in
          let in_it = (placed_parts defined (closure_of defined (alone n)) r at).1 in
          elim (or_cases _ _ (sym
          (set.contains-union nat_list_cmp_total (mapped_name m k)
          (all_beyond defined m (members (implied_by defined k))) x) ∙ h)) [
            | inl own ↦ mapped_to m (closure_of defined (alone n)) k x in_it own
            | inr more ↦ (let from = one_passes (λ j. set.contains (mapped_beyond defined m j) x) (implied_by defined k)
                (sym (contains-all_beyond (members (implied_by defined k)) x) ∙ more) in
                mapped_to m (closure_of defined (alone n)) from.0 x
                ((closure-law defined (alone n) from.0).1 (implied ((closure-law defined (alone n) k).0 in_it) from.1))
                (beyond_from from.0 x from.2))
          ]

      direct_from : map.contains_key defined n ≡ true → (x : List ℕ)
          → set.contains (mapped m (closure_of defined (alone n))) x ≡ true
          → (r : ℕ) × (has r (placed defined (closure_of defined (alone n))) ≡ true)
          × (set.contains (direct defined m (get_or (map.keys defined) r [])) x ≡ true)
      direct_from held x h =
          let from = mapped_from m (closure_of defined (alone n)) x h in
          elim (cases_Bool (map.contains_key defined from.0)) [
            | inl there ↦ (let p = place_found from.0 there in
                let at = at_place defined from.0 p.0 p.1 in (
                  p.0,
                  contains-placed_at defined (closure_of defined (alone n)) from.0 p.0 p.1 ∙ from.1,
                  ap (λ k. set.contains (direct defined m k) x) at.1
                      ∙ set.contains-union nat_list_cmp_total (mapped_name m from.0)
                      (all_beyond defined m (members (implied_by defined from.0))) x
                      ∙ or_left _ _ from.2,
                ))
            | inr none ↦ (let by = implied_there n from.0 held none ((closure-law defined (alone n) from.0).0 from.1) in
                let p = place_found by.0 (implies_defined by.0 from.0 by.2) in
                let at = at_place defined by.0 p.0 p.1 in
                let beyond : set.contains (mapped_beyond defined m from.0) x ≡ true =
                ap (λ s. set.contains s x) (beyond_missing from.0 none) ∙ from.2 in (
                  p.0,
                  contains-placed_at defined (closure_of defined (alone n)) by.0 p.0 p.1 ∙ by.1,
                  ap (λ k. set.contains (direct defined m k) x) at.1
                      ∙ set.contains-union nat_list_cmp_total (mapped_name m by.0)
                      (all_beyond defined m (members (implied_by defined by.0))) x
                      ∙ or_right _ _ (contains-all_beyond (members (implied_by defined by.0)) x
                      ∙ passes (λ j. set.contains (mapped_beyond defined m j) x) (implied_by defined by.0) from.0
                      by.2 beyond),
                ))
          ]

      -- what stands at the places of its closure, in one
      pub words_joined : map.contains_key defined n ≡ true
          → (table : Criteria) (words : List Places) (at joined : Places)
          → ((r : ℕ) → r < length (map.keys defined)
          → get_or words r set.empty ≡ placed table (direct defined m (get_or (map.keys defined) r [])))
          → at ≡ placed defined (closure_of defined (alone n))
          → ((q : ℕ) → (has q joined ≡ true) ↔
          ((r : ℕ) × (has r at ≡ true) × (has q (get_or words r set.empty) ≡ true)))
          → joined ≡ placed table (mapped m (closure_of defined (alone n)))
      words_joined held table words at joined are is tells = same_places _ _ (λ q. both_ways _ _ (forth q) (back q))
        where
          forth : (q : ℕ) → has q joined ≡ true → has q (placed table (mapped m (closure_of defined (alone n)))) ≡ true
          forth q h =
              let r = (tells q).0 h in
              let there : has r.0 (placed defined (closure_of defined (alone n))) ≡ true = ap (has r.0) (sym is)
              ∙ r.1 in
              let low = (placed_parts defined (closure_of defined (alone n)) r.0 there).0 in
              placed_along table (direct defined m (get_or (map.keys defined) r.0 []))
              (mapped m (closure_of defined (alone n))) q
              (direct_to r.0 (get_or (map.keys table) q []) there)
              (ap (has q) (sym (are r.0 low)) ∙ r.2)

          back : (q : ℕ) → has q (placed table (mapped m (closure_of defined (alone n)))) ≡ true → has q joined ≡ true
          back q h =
              let parts = placed_parts table (mapped m (closure_of defined (alone n))) q h in
              let r = direct_from held (get_or (map.keys table) q []) parts.1 in
              let low = (placed_parts defined (closure_of defined (alone n)) r.0 r.1).0 in
              (tells q).1 (
                r.0,
                ap (has r.0) is ∙ r.1,
                ap (has q) (are r.0 low)
                    ∙ in_placed table (direct defined m (get_or (map.keys defined) r.0 [])) q parts.0 r.2,
              )

    -- ---- several names

    -- what some names stand for is what each of them does
    pub each_stands : (table : Criteria) (names : NameSet) (q : ℕ)
        → list_any (λ n. has q (placed table (mapped m (closure_of defined (alone n))))) (members names)
        ≡ has q (placed table (mapped m (closure_of defined names)))
    each_stands table names q = both_ways _ _
        (λ h. (let one = one_passes (λ n. has q (placed table (mapped m (closure_of defined (alone n))))) names h in
        placed_along table (mapped m (closure_of defined (alone one.0))) (mapped m (closure_of defined names)) q
        (λ s. (let from = mapped_from m (closure_of defined (alone one.0)) (get_or (map.keys table) q []) s in
        mapped_to m (closure_of defined names) from.0 (get_or (map.keys table) q [])
        (for_all (map.entries defined) names one.0 from.0 one.1 from.1) from.2))
        one.2))
        (λ h. (let parts = placed_parts table (mapped m (closure_of defined names)) q h in
        let from = mapped_from m (closure_of defined names) (get_or (map.keys table) q []) parts.1 in
        let one = from_one (map.entries defined) names from.0 from.1 in
        passes (λ n. has q (placed table (mapped m (closure_of defined (alone n))))) names one.0 one.1
        (in_placed table (mapped m (closure_of defined (alone one.0))) q parts.0
        (mapped_to m (closure_of defined (alone one.0)) from.0 (get_or (map.keys table) q []) one.2 from.2))))
