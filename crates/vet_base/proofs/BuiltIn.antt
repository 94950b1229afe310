-- The table of the built-in criteria.
use Rattle.std.proofs.Common.{◌≡◌, ℕ, Bool, true, false, cond, ◌||◌, List, [], ◌∷◌, Some, None, is_some, Less, refl}
use Rattle.std.proofs.Common.{sym, ap, subst, ◌∙◌, arith}
use Rattle.std.specs.Option.{option_map_or}
use Rattle.std.specs.Ordering.{eq_by_cmp}
use Rattle.std.specs.FinSet as set
use Rattle.std.specs.FinMap as map
use Rattle.std.proofs.lemmas.Cmp.{nat_list_cmp_total}
use Rattle.std.proofs.lemmas.Bool.{false≢true}
use Rattle.std.proofs.lemmas.List.Elements.{All-nil, All-cons}
use Rattle.std.proofs.lemmas.List.Kept.{AllPairs-cons}
use Rattle.vet_base.specs.declared.criterion.Criterion.{Criterion}
use Rattle.vet_base.specs.Criteria.{Criteria, IsTable, built_in_criteria, run_criterion, deploy_criterion, safe_to_run}
use Rattle.vet_base.specs.Criteria.{safe_to_deploy}
use Rattle.vet_base.specs.Definitions.{by_name, IsKept}
use Rattle.vet_base.proofs.Rising.{R, only_equal, equal-from_eq, IsRising-nil}
use Rattle.vet_base.proofs.Closing.{found_entry}
use Rattle.vet_base.proofs.Tables.{named_in}

abbrev pub built_in : List Criterion
built_in = deploy_criterion ∷ run_criterion ∷ []

abbrev table : Criteria
table = map.from_sorted {R = R} (by_name built_in)

pub get_built_in : (q : List ℕ) → map.get table q
    ≡ cond (eq_by_cmp R q safe_to_deploy) (Some deploy_criterion)
    (cond (eq_by_cmp R q safe_to_run) (Some run_criterion) None)
get_built_in q = map.get-from_sorted R (by_name built_in) q tt

-- the two built-in criteria make the table of them
pub is_built_in : table ≡ built_in_criteria
is_built_in = map.same_map nat_list_cmp_total only_equal _ _ (λ q. get_built_in q
    ∙ sym (map.get-insert nat_list_cmp_total (map.insert map.empty safe_to_run run_criterion) safe_to_deploy
    deploy_criterion q
    ∙ ap (cond (eq_by_cmp R q safe_to_deploy) (Some deploy_criterion))
    (map.get-insert nat_list_cmp_total map.empty safe_to_run run_criterion q
    ∙ ap (cond (eq_by_cmp R q safe_to_run) (Some run_criterion)) (map.get-empty R q))))

implied_known : (a b : Bool) (n : List ℕ)
    → set.contains (option_map_or (λ c. c.implies) (cond a (Some deploy_criterion) (cond b (Some run_criterion) None))
    set.empty) n ≡ true → eq_by_cmp R n safe_to_run ≡ true
implied_known true b n h =
    or_false (eq_by_cmp R n safe_to_run) (set.contains set.empty n) (set.contains-empty R n)
    (sym (set.contains-insert nat_list_cmp_total set.empty safe_to_run n) ∙ h)
  where
    or_false : (x y : Bool) → y ≡ false → (x || y) ≡ true → x ≡ true
    or_false true y e h = refl
    or_false false y e h = sym e ∙ h
implied_known false true n h = absurd (false≢true (sym (set.contains-empty R n) ∙ h))
implied_known false false n h = absurd (false≢true (sym (set.contains-empty R n) ∙ h))

pub built_in_is_table : IsTable table
built_in_is_table = record {
  few = rw (map.len-entries table, map.entries-from_sorted R (by_name built_in) tt) (omega arith);
  named = λ n c h. named_in built_in n c
      (found_entry n (by_name built_in) c (sym (map.get-from_sorted R (by_name built_in) n tt) ∙ h));
  known = λ m n h. (let is : n ≡ safe_to_run =
      equal-from_eq n safe_to_run
      (implied_known (eq_by_cmp R m safe_to_deploy) (eq_by_cmp R m safe_to_run) n
      (ap (λ o. set.contains (option_map_or (λ c. c.implies) o set.empty) n) (sym (get_built_in m)) ∙ h)) in
      ap (λ q. map.contains_key table q) is ∙ ap is_some (get_built_in safe_to_run));
  run = get_built_in safe_to_run;
  deploy = get_built_in safe_to_deploy;
}

pub first_table : IsTable built_in_criteria
first_table = subst IsTable is_built_in built_in_is_table

pub built_in_is_kept : IsKept (safe_to_deploy ∷ safe_to_run ∷ []) built_in
built_in_is_kept = record {
  named = refl;
  rising = AllPairs-cons (λ a b. R a b ≡ Less) safe_to_deploy (safe_to_run ∷ [])
      (All-cons (λ b. R safe_to_deploy b ≡ Less) safe_to_run [] refl (All-nil _))
      (AllPairs-cons (λ a b. R a b ≡ Less) safe_to_run [] (All-nil _) IsRising-nil);
  few = omega arith;
}
