-- The criteria of a table beside the built-in ones: in what order they stand, and that they define it again.
use Rattle.std.proofs.Common.{◌≡◌, ℕ, ◌<◌, ◌≤◌, ◌⊎◌, Err, Bool, true, false, cond, not, ◌||◌, List, [], ◌∷◌, get_or}
use Rattle.std.proofs.Common.{length, map as mapped}
use Rattle.std.proofs.Common.{Option, Some, None, Less, refl, sym, ap, subst, ◌∙◌, arith, inl, inr}
use Rattle.std.specs.Cmp.{tied_itself}
use Rattle.std.specs.Cmp.Lexicographic.{bytes_decides, pointwise}
use Rattle.std.specs.List.{All, AllPairs, list_any}
use Rattle.std.specs.Ordering.{eq_by_cmp}
use Rattle.std.specs.FinMap as map
use Rattle.std.specs.FinSet as set
use Rattle.std.specs.Option.{option_map_or}
use Rattle.std.specs.Prelude.{Ok, fold, nat_eq, nat_lt}
use Rattle.std.proofs.lemmas.Bool.{false≢true}
use Rattle.std.proofs.lemmas.Bool.Decides.{nat_tests}
use Rattle.std.proofs.lemmas.Cmp.{nat_list_cmp_total}
use Rattle.std.proofs.lemmas.List.{get_or-map, length-map}
use Rattle.std.proofs.lemmas.List.Folds.{list_any_none}
use Rattle.std.proofs.lemmas.List.Kept.{AllPairs-filter}
use Rattle.vet_base.specs.declared.criterion.Criterion.{Criterion}
use Rattle.vet_base.specs.declared.limits.TheConstants.{MOST_CRITERIA}
use Rattle.vet_base.specs.Criteria.{Criteria, IsTable, built_in_criteria, deploy_criterion, run_criterion}
use Rattle.vet_base.specs.Criteria.{safe_to_deploy, safe_to_run}
use Rattle.vet_base.specs.CriteriaChanges.{is_built_in}
use Rattle.vet_base.specs.Criterion.{criterion_name}
use Rattle.vet_base.specs.Defined.{defined, least_implied, least_undefined, lesser, table_told}
use Rattle.vet_base.specs.Defined.{table_unless}
use Rattle.vet_base.specs.declared.refusal.Refusal.TheVariants.{TooManyCriteria}
use Rattle.vet_base.specs.Gives.{Told}
use Rattle.vet_base.specs.FurtherCriteria.{further, is_further}
use Rattle.vet_base.specs.Items.{IsIn, NamedOnce}
use Rattle.vet_base.specs.Keyed.{IsByKey}
use Rattle.vet_base.specs.Words.{Name}
use Rattle.vet_base.proofs.BuiltIn as built
use Rattle.vet_base.proofs.BuiltIn.{first_table}
use Rattle.vet_base.proofs.DefinedLaws.{get_with}
use Rattle.vet_base.proofs.DefinitionLaws.{NoneBuilt, found, one_of}
use Rattle.vet_base.proofs.FurtherLaws.{find_in, in_find, in_values, value_in}
use Rattle.vet_base.proofs.ItemLemmas.{all_in, filter_in, in_all, in_filter}
use Rattle.vet_base.proofs.LeastNames.{least_none}
use Rattle.vet_base.proofs.Rising.{R, equal-from_eq, only_equal}
use Rattle.vet_base.proofs.Tables.{rising_keys}

-- ---- lists of images

pairs_unmapped : {X Y : Type 0} (f : X → Y) (Q : Y → Y → Type 0) (xs : List X) → AllPairs Q (mapped f xs)
    → AllPairs (λ x y. Q (f x) (f y)) xs
pairs_unmapped f Q xs h i j d l m =
    let first : i < length xs = omega (arith, l, m) in
    rw (sym (get_or-map f xs i d (f d) first), sym (get_or-map f xs j d (f d) m)) (h i j (f d) l (rw length-map m))

-- ---- what a table holds at its names

-- each criterion stands at its own name
abbrev pub AreNamed : Criteria → Type 0
AreNamed table = (n : Name) (c : Criterion) → map.get table n ≡ Some c → c.name ≡ n

-- what criteria define stands at its own name
pub defined_named : (cs : List Criterion) → AreNamed (defined cs)
defined_named cs n c h = elim (one_of built_in_criteria cs n c h) [
  | inl (among, name) ↦ name
  | inr first ↦ first_table.named n c first
]

module _ (table : Criteria) (named : AreNamed table) where
  got : (q : Name) (c : Criterion) → IsIn (q, c) (map.entries table) → map.get table q ≡ Some c
  got q c i = map.get-entries table q ∙ in_find q (map.entries table) c (map.entries_sorted table) i

  pub in_further : (c : Criterion) → IsIn c (further table) → map.get table c.name ≡ Some c
  in_further c i =
      let at = value_in c (map.entries table) (in_filter is_further (map.values table) c i).0 in
      let here = got at.0 c at.1 in
      ap (map.get table) (named at.0 c here) ∙ here

  pub further_in : (n : Name) (c : Criterion) → map.get table n ≡ Some c → is_built_in n ≡ false
      → IsIn c (further table)
  further_in n c h free =
      filter_in is_further (map.values table) c
      (in_values n c (map.entries table) (find_in n (map.entries table) c (sym (map.get-entries table n) ∙ h)))
      (ap (λ m. not (is_built_in m)) (named n c h) ∙ ap not free)

  key_is : (es : List (Name × Criterion)) → ((e : Name × Criterion) → IsIn e es → e.1.name ≡ e.0)
      → mapped criterion_name (mapped (λ e. e.1) es) ≡ mapped (λ e. e.0) es
  key_is [] h = refl
  key_is (e ∷ es) h =
      let first = h e (inl refl) in let rest = key_is es (λ x i. h x (inr i)) in λ i. first i ∷ rest i

  -- they stand in the order of their names
  pub further_by_name : IsByKey R criterion_name (further table)
  further_by_name =
      let same = key_is (map.entries table) (λ e i. named e.0 e.1 (got e.0 e.1 i)) in
      AllPairs-filter (λ a b. R (criterion_name a) (criterion_name b) ≡ Less) is_further (map.values table)
      (pairs_unmapped criterion_name (λ a b. R a b ≡ Less) (map.values table)
      (subst (AllPairs (λ a b. R a b ≡ Less)) (sym same) (rising_keys table)))

  -- no name stands twice among them
  pub further_once : NamedOnce (λ c. c.name) (further table)
  further_once i j d l m same =
      let a = get_or (further table) i d in
      let b = get_or (further table) j d in
      cc (sym (further_by_name i j d l m) ∙ ap (λ n. R n b.name) same ∙ tied_itself nat_list_cmp_total b.name)

not_true : (b : Bool) → not b ≡ true → b ≡ false
not_true true h = sym h
not_true false h = refl

-- none of them is built in
pub further_free : (table : Criteria) → NoneBuilt (further table)
further_free table =
    all_in (λ c. is_built_in c.name ≡ false) (further table)
    (λ c i. not_true (is_built_in c.name) (in_filter is_further (map.values table) c i).1)

-- ---- a table is what they define

alike : (o p : Option Criterion) → ((c : Criterion) → o ≡ Some c → p ≡ Some c)
    → ((c : Criterion) → p ≡ Some c → o ≡ Some c) → o ≡ p
alike (Some c) p f g = sym (f c refl)
alike None (Some c) f g = g c refl
alike None None f g = refl

-- a built-in name is one of the two
which : (q : Name) → is_built_in q ≡ true → (q ≡ safe_to_run) ⊎ (q ≡ safe_to_deploy)
which q h = by (pointwise nat_eq q safe_to_run) refl h
  where
    by : (b : Bool) → pointwise nat_eq q safe_to_run ≡ b → (b || pointwise nat_eq q safe_to_deploy) ≡ true
        → (q ≡ safe_to_run) ⊎ (q ≡ safe_to_deploy)
    by true e t = inl ((bytes_decides q safe_to_run).0 e)
    by false e t = inr ((bytes_decides q safe_to_deploy).0 t)

not_over : (a b : ℕ) → b ≤ a → nat_lt a b ≡ false
not_over a b h = grind (arith, nat_tests)

module _ (table : Criteria) (is : IsTable table) where
  -- what is built in, a table has
  has_built : (q : Name) (c : Criterion) → map.get built_in_criteria q ≡ Some c → map.get table q ≡ Some c
  has_built q c h =
      by (eq_by_cmp R q safe_to_deploy) refl (eq_by_cmp R q safe_to_run) refl
      (sym (built.get_built_in q) ∙ ap (λ t. map.get t q) built.is_built_in ∙ h)
    where
      by : (a : Bool) → eq_by_cmp R q safe_to_deploy ≡ a → (b : Bool) → eq_by_cmp R q safe_to_run ≡ b
          → cond a (Some deploy_criterion) (cond b (Some run_criterion) None) ≡ Some c → map.get table q ≡ Some c
      by true e b f s = ap (map.get table) (equal-from_eq q safe_to_deploy e) ∙ is.deploy ∙ s
      by false e true f s = ap (map.get table) (equal-from_eq q safe_to_run f) ∙ is.run ∙ s
      by false e false f s = cc s

  -- a name that is built in is not among them
  apart : (q : Name) → is_built_in q ≡ true → All (λ c. eq_by_cmp R q c.name ≡ false) (further table)
  apart q built =
      all_in (λ c. eq_by_cmp R q c.name ≡ false) (further table)
      (λ c i. no c (eq_by_cmp R q c.name) refl (in_all (λ d. is_built_in d.name ≡ false) (further table)
      (further_free table) c i))
    where
      no : (c : Criterion) (b : Bool) → eq_by_cmp R q c.name ≡ b → is_built_in c.name ≡ false → b ≡ false
      no c false e free = refl
      no c true e free = absurd (false≢true (sym free ∙ ap is_built_in (sym (equal-from_eq q c.name e)) ∙ built))

  forth : (q : Name) (c : Criterion) → map.get (defined (further table)) q ≡ Some c → map.get table q ≡ Some c
  forth q c h = elim (one_of built_in_criteria (further table) q c h) [
    | inl (among, name) ↦ ap (map.get table) (sym name) ∙ in_further table is.named c among
    | inr first ↦ has_built q c first
  ]

  back : (q : Name) (c : Criterion) → map.get table q ≡ Some c → map.get (defined (further table)) q ≡ Some c
  back q c h = by (is_built_in q) refl
    where
      by : (b : Bool) → is_built_in q ≡ b → map.get (defined (further table)) q ≡ Some c
      by false free =
          ap (map.get (defined (further table))) (sym (is.named q c h))
          ∙ found built_in_criteria (further table) (further_once table is.named) c
          (further_in table is.named q c h free)
      by true built = get_with built_in_criteria (further table) q (apart q built) ∙ elim (which q built) [
        | inl run ↦ ap (map.get built_in_criteria) run ∙ first_table.run ∙ sym is.run ∙ ap (map.get table) (sym run) ∙ h
        | inr deploy ↦ ap (map.get built_in_criteria) deploy ∙ first_table.deploy ∙ sym is.deploy
            ∙ ap (map.get table) (sym deploy) ∙ h
      ]

  pub defined_again : defined (further table) ≡ table
  defined_again =
      map.same_map nat_list_cmp_total only_equal (defined (further table)) table
      (λ q. alike (map.get (defined (further table)) q) (map.get table q) (forth q) (back q))

  -- ---- so they have a table

  known_each : (c : Criterion) → IsIn c (further table) → least_implied (map.contains_key table) c ≡ None
  known_each c i =
      least_none table c.implies
      (λ n held. is.known c.name n
      (ap (λ o. set.contains (option_map_or (λ (d : Criterion). d.implies) o set.empty) n)
      (in_further table is.named c i)
      ∙ held))

  least : (cs : List Criterion) → ((c : Criterion) → IsIn c cs → least_implied (map.contains_key table) c ≡ None)
      → least_undefined (map.contains_key table) cs ≡ None
  least [] h = refl
  least (c ∷ cs) h =
      ap (λ o. fold (λ (found : Option Name) (d : Criterion). lesser found (least_implied (map.contains_key table) d))
      o cs) (h c (inl refl))
      ∙ least cs (λ d i. h d (inr i))

  abbrev told_with : Criteria → List Criterion → Told Criteria
  told_with t cs =
      cond (nat_lt MOST_CRITERIA (map.len t)) (Err TooManyCriteria)
      (table_unless (least_undefined (map.contains_key t) cs) (list_any (λ c. is_built_in c.name) cs) t)

  pub told_again : table_told (further table) ≡ Ok table
  told_again =
      ap (λ t. told_with t (further table)) defined_again
      ∙ rw (
        not_over MOST_CRITERIA (map.len table) is.few,
        least (further table) known_each,
        list_any_none (λ c. is_built_in c.name) (further table) (further_free table),
      ) refl
