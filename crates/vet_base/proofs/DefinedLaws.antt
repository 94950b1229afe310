-- What some criteria define is a table where nothing refuses them.
use Rattle.std.proofs.Common.{◌≡◌, ℕ, ◌≤◌, get_or, Bool, true, false, cond, ◌||◌, not, nat_lt, List, [], ◌∷◌, is_some}
use Rattle.std.proofs.Common.{fold, Option, Some, None, Ok, Err, refl, sym, ap, subst, ◌∙◌, inl, inr, lt-ltb}
use Rattle.std.specs.List.{All, list_any}
use Rattle.std.specs.Option.{option_map_or}
use Rattle.std.specs.Ordering.{eq_by_cmp, is_lt}
use Rattle.std.specs.FinSet as set
use Rattle.std.specs.FinMap as map
use Rattle.std.specs.Cmp.Lexicographic.{pointwise}
use Rattle.std.proofs.Common.{nat_eq}
use Rattle.std.proofs.lemmas.Cmp.{nat_list_cmp_total}
use Rattle.std.proofs.lemmas.Bool.{false≢true, cond-false, or_parts, not-false, le-ltb, cases_lt}
use Rattle.std.proofs.lemmas.List.Elements.{All-nil, All-cons, All-head, All-tail}
use Rattle.std.proofs.lemmas.Option.{same_Some}
use Rattle.vet_base.specs.declared.refusal.Refusal.TheVariants.{UnknownCriterion, BuiltInCriterion, TooManyCriteria}
use Rattle.vet_base.specs.Gives.{Told}
use Rattle.vet_base.specs.declared.limits.TheConstants.{MOST_CRITERIA}
use Rattle.vet_base.specs.declared.criterion.Criterion.{Criterion}
use Rattle.vet_base.specs.Names.{NameSet, members}
use Rattle.vet_base.specs.Criteria.{Criteria, IsTable, built_in_criteria, run_criterion, deploy_criterion, safe_to_run}
use Rattle.vet_base.specs.Criteria.{safe_to_deploy}
use Rattle.vet_base.specs.CriteriaChanges.{is_built_in}
use Rattle.vet_base.specs.Defined.{defined, least_implied, least_undefined, lesser, table_told, table_unless}
use Rattle.vet_base.proofs.Rising.{R, equal-from_eq}
use Rattle.vet_base.proofs.BuiltIn.{first_table}
use Rattle.vet_base.proofs.Changes.{none_found, not_this}
use Rattle.vet_base.proofs.Walks.{among_members}
use Rattle.vet_base.proofs.DefinedTables.{with_criteria}

-- ---- what holds of each criterion of a table

abbrev Each : (Criterion → Type 0) → Criteria → Type 0
Each Q table = (n : List ℕ) (c : Criterion) → map.get table n ≡ Some c → (c.name ≡ n) × Q c

each_insert : (Q : Criterion → Type 0) (table : Criteria) (c : Criterion) → Each Q table → Q c
    → Each Q (map.insert table c.name c)
each_insert Q table c h q n d e =
    by (eq_by_cmp R n c.name) refl (sym (map.get-insert nat_list_cmp_total table c.name c n) ∙ e)
  where
    by : (b : Bool) → eq_by_cmp R n c.name ≡ b → cond b (Some c) (map.get table n) ≡ Some d → (d.name ≡ n) × Q d
    by true s is = (let same : c ≡ d = same_Some c d is in
        (ap (λ (x : Criterion). x.name) (sym same) ∙ sym (equal-from_eq n c.name s), subst Q same q))
    by false s is = h n d is

each_with : (Q : Criterion → Type 0) (table : Criteria) (criteria : List Criterion) → Each Q table → All Q criteria
    → Each Q (with_criteria table criteria)
each_with Q table [] h q = h
each_with Q table (c ∷ cs) h q =
    each_with Q (map.insert table c.name c) cs (each_insert Q table c h (All-head Q c cs q)) (All-tail Q c cs q)

each_of_none : (Q : Criterion → Type 0) → Each Q map.empty
each_of_none Q n c e = cc (sym (map.get-empty R n) ∙ e)

-- what no criterion is named stays
pub get_with : (table : Criteria) (criteria : List Criterion) (q : List ℕ)
    → All (λ c. eq_by_cmp R q c.name ≡ false) criteria → map.get (with_criteria table criteria) q ≡ map.get table q
get_with table [] q h = refl
get_with table (c ∷ cs) q h =
    get_with (map.insert table c.name c) cs q (All-tail (λ d. eq_by_cmp R q d.name ≡ false) c cs h)
    ∙ map.get-insert nat_list_cmp_total table c.name c q
    ∙ cond-false (eq_by_cmp R q c.name) (Some c) (map.get table q) (All-head (λ d. eq_by_cmp R q d.name ≡ false) c cs h)

-- ---- what a verdict says of each

none_built : (criteria : List Criterion) → list_any (λ c. is_built_in c.name) criteria ≡ false
    → All (λ c. is_built_in c.name ≡ false) criteria
none_built [] h = All-nil _
none_built (c ∷ cs) h =
    let parts = or_parts (is_built_in c.name) (list_any (λ d. is_built_in d.name) cs) h in
    All-cons (λ d. is_built_in d.name ≡ false) c cs parts.0 (none_built cs parts.1)

not_some : (b : Bool) (x y : List ℕ) → ◌≡◌ {A = Option (List ℕ)} (cond b (Some x) (Some y)) None → ⊥
not_some true x y e = cc e
not_some false x y e = cc e

lesser_none : (a b : Option (List ℕ)) → lesser a b ≡ None → (a ≡ None) × (b ≡ None)
lesser_none None b e = (refl, e)
lesser_none (Some a) None e = cc e
lesser_none (Some a) (Some b) e = absurd (not_some (is_lt (R b a)) b a e)

none_undefined : (known : List ℕ → Bool) (o : Option (List ℕ)) (criteria : List Criterion)
    → fold (λ least c. lesser least (least_implied known c)) o criteria ≡ None → (o ≡ None)
    × All (λ c. least_implied known c ≡ None) criteria
none_undefined known o [] e = (e, All-nil _)
none_undefined known o (c ∷ cs) e =
    let rest = none_undefined known (lesser o (least_implied known c)) cs e in
    let parts = lesser_none o (least_implied known c) rest.0 in
    (parts.0, All-cons (λ d. least_implied known d ≡ None) c cs parts.1 rest.1)

-- ---- the table

module _ (criteria : List Criterion) (few : map.len (defined criteria) ≤ MOST_CRITERIA)
    (unknown : least_undefined (map.contains_key (defined criteria)) criteria ≡ None)
    (own : list_any (λ c. is_built_in c.name) criteria ≡ false) where
  abbrev Known : Criterion → Type 0
  Known c = (n : List ℕ) → set.contains c.implies n ≡ true → map.contains_key (defined criteria) n ≡ true

  others : All (λ c. is_built_in c.name ≡ false) criteria
  others = none_built criteria own

  built_in_stays : (name : List ℕ) → ((n : List ℕ) → is_built_in n ≡ false → pointwise nat_eq n name ≡ false)
      → map.get (defined criteria) name ≡ map.get built_in_criteria name
  built_in_stays name other =
      get_with built_in_criteria criteria name
      (λ k d l. not_this (get_or criteria k d).name name (other (get_or criteria k d).name (others k d l)))

  run_stays : map.get (defined criteria) safe_to_run ≡ Some run_criterion
  run_stays = built_in_stays safe_to_run
      (λ n h. (or_parts (pointwise nat_eq n safe_to_run) (pointwise nat_eq n safe_to_deploy) h).0) ∙ first_table.run

  deploy_stays : map.get (defined criteria) safe_to_deploy ≡ Some deploy_criterion
  deploy_stays = built_in_stays safe_to_deploy
      (λ n h. (or_parts (pointwise nat_eq n safe_to_run) (pointwise nat_eq n safe_to_deploy) h).1)
      ∙ first_table.deploy

  run_known : Known run_criterion
  run_known n h = absurd (false≢true (sym (set.contains-empty R n) ∙ h))

  deploy_known : Known deploy_criterion
  deploy_known n h = ap (λ q. map.contains_key (defined criteria) q)
      (equal-from_eq n safe_to_run
      (only (eq_by_cmp R n safe_to_run) (sym (set.contains-insert nat_list_cmp_total set.empty safe_to_run n) ∙ h)))
      ∙ ap is_some run_stays
    where
      only : (b : Bool) → (b || set.contains (set.empty {R = R}) n) ≡ true → b ≡ true
      only true e = refl
      only false e = sym (set.contains-empty R n) ∙ e

  all_known : All Known criteria
  all_known k d l n h =
      let none = (none_undefined (map.contains_key (defined criteria)) None criteria unknown).1 k d l in
      not-false _ (none_found (λ x. not (map.contains_key (defined criteria) x)) (members _) n none
      (among_members _ n h))

  each : Each Known (defined criteria)
  each =
      each_with Known map.empty (run_criterion ∷ deploy_criterion ∷ criteria) (each_of_none Known)
      (All-cons Known run_criterion (deploy_criterion ∷ criteria) run_known
      (All-cons Known deploy_criterion criteria deploy_known all_known))

  pub defined_is_table : IsTable (defined criteria)
  defined_is_table = record {
    few = few;
    named = λ n c e. (each n c e).0;
    known = λ m n e. by m n (map.get (defined criteria) m) refl e;
    run = run_stays;
    deploy = deploy_stays;
  }
    where
      by : (m n : List ℕ) (o : Option Criterion) → map.get (defined criteria) m ≡ o
          → set.contains (option_map_or (λ c. c.implies) o set.empty) n ≡ true → map.contains_key (defined criteria) n
          ≡ true
      by m n None e h = absurd (false≢true (sym (set.contains-empty R n) ∙ h))
      by m n (Some c) e h = (each m c e).1 n h

-- ---- what is told

-- what is undefined where the names known are told by a set
pub known_by_set : (criteria : List Criterion) (known : NameSet)
    → ((n : List ℕ) → set.contains known n ≡ map.contains_key (defined criteria) n)
    → least_undefined (set.contains known) criteria ≡ least_undefined (map.contains_key (defined criteria)) criteria
known_by_set criteria known knows i = least_undefined (λ n. knows n i) criteria

module _ (criteria : List Criterion) (few : map.len (defined criteria) ≤ MOST_CRITERIA) where
  room : nat_lt MOST_CRITERIA (map.len (defined criteria)) ≡ false
  room = le-ltb MOST_CRITERIA (map.len (defined criteria)) few

  pub told_unknown : (n : List ℕ) → least_undefined (map.contains_key (defined criteria)) criteria ≡ Some n
      → table_told criteria ≡ Err (UnknownCriterion n)
  told_unknown n e = rw (room, e) refl

  pub told_built_in : least_undefined (map.contains_key (defined criteria)) criteria ≡ None
      → list_any (λ c. is_built_in c.name) criteria ≡ true → table_told criteria ≡ Err BuiltInCriterion
  told_built_in e own = rw (room, e, own) refl

ok_parts : (full : Bool) (o : Option (List ℕ)) (own : Bool) (table t : Criteria)
    → ◌≡◌ {A = Told Criteria} (cond full (Err TooManyCriteria) (table_unless o own table)) (Ok t)
    → (full ≡ false) × ((o ≡ None) × (own ≡ false))
ok_parts true o own table t e = cc e
ok_parts false (Some n) own table t e = cc e
ok_parts false None true table t e = cc e
ok_parts false None false table t e = (refl, (refl, refl))

-- where nothing refuses, there is a table
pub told_is_table : (criteria : List Criterion) → table_told criteria ≡ Ok (defined criteria)
    → IsTable (defined criteria)
told_is_table criteria e =
    let parts = ok_parts (nat_lt MOST_CRITERIA (map.len (defined criteria)))
    (least_undefined (map.contains_key (defined criteria)) criteria) (list_any (λ c. is_built_in c.name) criteria)
    (defined criteria) (defined criteria) e in
    let few : map.len (defined criteria) ≤ MOST_CRITERIA = elim (cases_lt MOST_CRITERIA (map.len (defined criteria))) [
      | inl over ↦ absurd (false≢true (sym parts.0 ∙ lt-ltb MOST_CRITERIA (map.len (defined criteria)) over))
      | inr within ↦ within
    ] in
    defined_is_table criteria few parts.1.0 parts.1.1
