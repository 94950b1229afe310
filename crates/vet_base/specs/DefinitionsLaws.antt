-- Equality of criteria by their names (ours).
use Rattle.std.specs.Prelude.{ℕ, ◌≡◌, List}
use Rattle.std.specs.Bool.{Decides}
use Rattle.std.specs.Cmp.Lexicographic.{bytes_decides, pointwise_decides}
use Rattle.std.specs.FinMap as map
use Rattle.std.proofs.Common.{ap}
use Rattle.std.proofs.lemmas.Bool.Decides.{Decides-and, Decides-like}
use Rattle.vet_base.specs.declared.criterion.Criterion.{Criterion}
use Rattle.vet_base.specs.Criteria.{Criteria}
use Rattle.vet_base.specs.CriterionLaws.{criterion_eq-Decides}
use Rattle.vet_base.specs.Definitions.{criteria_eq, entry_eq}

-- a name with its criterion is equal only to itself
pub entry_eq-Decides : (a b : List ℕ × Criterion) → Decides (entry_eq a b) (a ≡ b)
entry_eq-Decides a b =
    Decides-like _ (λ h. λ i. (h.0 i, h.1 i))
    (λ e. (ap (λ (p : List ℕ × Criterion). p.0) e, ap (λ (p : List ℕ × Criterion). p.1) e))
    (Decides-and _ _ (bytes_decides a.0 b.0) (criterion_eq-Decides a.1 b.1))

-- a definition is equal only to itself
pub criteria_eq-Decides : (a b : Criteria) → Decides (criteria_eq a b) (a ≡ b)
criteria_eq-Decides a b =
    let h = pointwise_decides entry_eq-Decides (map.entries a) (map.entries b) in
    (λ same. map.same_entries_map a b (h.0 same), λ e. h.1 (ap map.entries e))
