-- Criteria by their names: how they are kept, and their equality (ours).
--
-- Two definitions are equal if they have equal criteria under the same names (criteria_eq, criteria_eq-Decides).
-- Lists of criteria without duplicate or built-in names define the same exactly if they have the same criteria, in any
-- order (SameDefinitions).
use Rattle.std.specs.Prelude.{◌≡◌, ◌≤◌, ◌↔◌, ◌&&◌, Bool, false, List, length, map as mapped}
use Rattle.std.specs.List.{All}
use Rattle.std.specs.Cmp.Lexicographic.{pointwise}
use Rattle.std.specs.FinMap as map
use Rattle.std.specs.Str.{bytes_eq}
use Rattle.vet_base.specs.declared.limits.TheConstants.{MOST_CRITERIA}
use Rattle.vet_base.specs.declared.criterion.Criterion.{Criterion}
use Rattle.vet_base.specs.Criterion.{criterion_eq}
use Rattle.vet_base.specs.Names.{IsRising}
use Rattle.vet_base.specs.Criteria.{Criteria}
use Rattle.vet_base.specs.CriteriaChanges.{is_built_in}
use Rattle.vet_base.specs.Defined.{defined}
use Rattle.vet_base.specs.Items.{NamedOnce, SameItems}
use Rattle.vet_base.specs.Words.{Name}

abbrev pub by_name : List Criterion → List (Name × Criterion)
by_name criteria = mapped (λ c. (c.name, c)) criteria

-- the names are those of the criteria, in order, and at most MOST_CRITERIA
pub record IsKept (names : List Name) (criteria : List Criterion) : Type 0 where
  pub named : mapped (λ c. c.name) criteria ≡ names
  pub rising : IsRising names
  pub few : length names ≤ MOST_CRITERIA

-- whether two names with their criteria are the same
abbrev pub entry_eq : Name × Criterion → Name × Criterion → Bool
entry_eq a b = bytes_eq a.0 b.0 && criterion_eq a.1 b.1

-- whether two definitions are the same
abbrev pub criteria_eq : Criteria → Criteria → Bool
criteria_eq a b = pointwise entry_eq (map.entries a) (map.entries b)

-- two lists of criteria with different names, none of them built in, define the same exactly if they have the same
-- criteria
abbrev pub SameDefinitions : Type 0
SameDefinitions =
    (a b : List Criterion) → NamedOnce (λ c. c.name) a → NamedOnce (λ c. c.name) b
    → All (λ c. is_built_in c.name ≡ false) a → All (λ c. is_built_in c.name ≡ false) b
    → (defined a ≡ defined b) ↔ SameItems a b
