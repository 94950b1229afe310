-- The functions that compare maps decide whether they are the same (ours).
use Rattle.std.specs.Prelude.{◌≡◌}
use Rattle.std.specs.Bool.{Decides}
use Rattle.std.specs.Cmp.Lexicographic.{bytes_decides, pointwise_decides}
use Rattle.std.specs.FinMap as map
use Rattle.std.proofs.Common.{ap}
use Rattle.std.proofs.lemmas.Bool.Decides.{Decides-and, Decides-like}
use Rattle.vet_base.specs.NamesLaws.{same_names-Decides}
use Rattle.vet_base.specs.Names.{NameSet}
use Rattle.vet_base.specs.Words.{Name}
use Rattle.vet_entries.specs.declared.criteria_map.MappedCriterion.{MappedCriterion}
use Rattle.vet_entries.specs.CriteriaMap.{NamesByName, mapped_eq, pair_eq, map_eq}

pub mapped_eq-Decides : (a b : MappedCriterion) → Decides (mapped_eq a b) (a ≡ b)
mapped_eq-Decides a b =
    Decides-like _ (λ h. λ i. record { name = h.0 i; criteria = h.1 i })
    (λ e. (ap (λ m. m.name) e, ap (λ m. m.criteria) e))
    (Decides-and _ _ (bytes_decides a.name b.name) (same_names-Decides a.criteria b.criteria))

pub pair_eq-Decides : (a b : Name × NameSet) → Decides (pair_eq a b) (a ≡ b)
pair_eq-Decides a b =
    Decides-like _ (λ h. λ i. (h.0 i, h.1 i))
    (λ e. (ap (λ (p : Name × NameSet). p.0) e, ap (λ (p : Name × NameSet). p.1) e))
    (Decides-and _ _ (bytes_decides a.0 b.0) (same_names-Decides a.1 b.1))

pub map_eq-Decides : (a b : NamesByName) → Decides (map_eq a b) (a ≡ b)
map_eq-Decides a b =
    let h = pointwise_decides pair_eq-Decides (map.entries a) (map.entries b) in
    (λ same. map.same_entries_map a b (h.0 same), λ e. h.1 (ap map.entries e))
