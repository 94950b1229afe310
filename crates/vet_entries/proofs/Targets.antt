-- What a map lists, item by item, and the least name of it that a table lacks.
use Rattle.std.proofs.Common.{◌≡◌, ℕ, ◌<◌, ◌+◌, ◌||◌, not, List, [], ◌∷◌, length, get_or, take, sym, ap, ◌∙◌}
use Rattle.std.specs.List.{list_any}
use Rattle.std.specs.FinSet as set
use Rattle.std.specs.FinMap as map
use Rattle.std.proofs.lemmas.Cmp.{nat_list_cmp_total}
use Rattle.std.proofs.lemmas.List.Folds.{list_any_more}
use Rattle.vet_base.specs.Criteria.{Criteria, least_unknown}
use Rattle.vet_base.specs.Defined.{lesser}
use Rattle.vet_base.proofs.LeastNames.{find-union}
use Rattle.vet_base.proofs.Rising.{R, only_equal}
use Rattle.vet_entries.specs.declared.criteria_map.MappedCriterion.{MappedCriterion}
use Rattle.vet_entries.specs.CriteriaMap.{by_name}
use Rattle.vet_entries.specs.Mapped.{all_targets}

pub contains-targets : (items : List MappedCriterion) (x : List ℕ)
    → list_any (λ (m : MappedCriterion). set.contains m.criteria x) items ≡ set.contains (all_targets (by_name items)) x
contains-targets [] x = sym (set.contains-empty R x)
contains-targets (m ∷ rest) x = ap (λ b. set.contains m.criteria x || b) (contains-targets rest x)
    ∙ sym (set.contains-union nat_list_cmp_total m.criteria (all_targets (by_name rest)) x)

more_targets : (items : List MappedCriterion) (i : ℕ) (m : MappedCriterion) → i < length items → m ≡ get_or items i m
    → all_targets (by_name (take (i + 1) items)) ≡ set.union (all_targets (by_name (take i items))) m.criteria
more_targets items i m l is = set.same_set nat_list_cmp_total only_equal _ _ (λ x.
    sym (contains-targets (take (i + 1) items) x)
    ∙ list_any_more (λ (k : MappedCriterion). set.contains k.criteria x) items i m l
    ∙ (λ j. contains-targets (take i items) x j || set.contains (sym is j).criteria x)
    ∙ sym (set.contains-union nat_list_cmp_total (all_targets (by_name (take i items))) m.criteria x))

-- one more item, as at a step of a loop
pub least_target_more : (table : Criteria) (items : List MappedCriterion) (i : ℕ) (m : MappedCriterion)
    → i < length items → m ≡ get_or items i m
    → lesser (least_unknown table (all_targets (by_name (take i items)))) (least_unknown table m.criteria)
    ≡ least_unknown table (all_targets (by_name (take (i + 1) items)))
least_target_more table items i m l is =
    sym (ap (least_unknown table) (more_targets items i m l is)
    ∙ find-union (λ n. not (map.contains_key table n)) (all_targets (by_name (take i items))) m.criteria)
