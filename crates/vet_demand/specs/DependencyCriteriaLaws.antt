-- Criteria of dependencies are equal only to themselves (ours).
use Rattle.std.specs.Prelude.{◌≡◌, List}
use Rattle.std.specs.Bool.{Decides}
use Rattle.std.specs.Cmp.Lexicographic.{bytes_decides, pointwise_decides}
use Rattle.std.proofs.Common.{ap}
use Rattle.std.proofs.lemmas.Bool.Decides.{Decides-and, Decides-like}
use Rattle.vet_base.specs.NamesLaws.{same_names-Decides}
use Rattle.vet_demand.specs.declared.dependency_criteria.DependencyItem.{DependencyItem}
use Rattle.vet_demand.specs.DependencyCriteria.{dependency_eq, dependencies_eq}

same_dependency : (a b : DependencyItem) → (a.«package» ≡ b.«package») × (a.criteria ≡ b.criteria) → a ≡ b
same_dependency a b h = λ i. record { «package» = h.0 i; criteria = h.1 i }

-- an item is equal only to itself
pub dependency_eq-Decides : (a b : DependencyItem) → Decides (dependency_eq a b) (a ≡ b)
dependency_eq-Decides a b =
    Decides-like _ (same_dependency a b) (λ e. (
      ap (λ (d : DependencyItem). d.«package») e,
      ap (λ (d : DependencyItem). d.criteria) e,
    ))
    (Decides-and _ _ (bytes_decides a.«package» b.«package») (same_names-Decides a.criteria b.criteria))

pub dependencies_eq-Decides : (a b : List DependencyItem) → Decides (dependencies_eq a b) (a ≡ b)
dependencies_eq-Decides = pointwise_decides dependency_eq-Decides
