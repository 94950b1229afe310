-- The criteria besides the built-in ones (ours).
use Rattle.std.specs.Prelude.{◌≡◌, not, Bool, false, List, filter}
use Rattle.std.specs.List.{All}
use Rattle.std.specs.FinMap as map
use Rattle.vet_base.specs.declared.criterion.Criterion.{Criterion}
use Rattle.vet_base.specs.Criteria.{Criteria}
use Rattle.vet_base.specs.CriteriaChanges.{is_built_in}
use Rattle.vet_base.specs.Defined.{defined}
use Rattle.vet_base.specs.Items.{NamedOnce, SameItems}

-- a criterion is not built in
abbrev pub is_further : Criterion → Bool
is_further c = not (is_built_in c.name)

-- the criteria of a table that are not built in, in the order of their names
abbrev pub further : Criteria → List Criterion
further table = filter is_further (map.values table)

-- criteria with different names, none of them built in, define exactly these besides the built-in ones, each once
abbrev pub FurtherAreDefined : Type 0
FurtherAreDefined =
    (criteria : List Criterion)
    → NamedOnce (λ c. c.name) criteria
    → All (λ c. is_built_in c.name ≡ false) criteria
    → SameItems (further (defined criteria)) criteria × NamedOnce (λ c. c.name) (further (defined criteria))
