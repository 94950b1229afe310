-- Tables of criteria that are compared (ours).
use Rattle.std.specs.Prelude.{◌≡◌}
use Rattle.std.specs.FinMap as map
use Rattle.std.specs.List.{All}
use Rattle.vet_base.specs.Criteria.{Criteria}

-- each criterion of a table is the same in another
abbrev pub AreWithin : Criteria → Criteria → Type 0
AreWithin table other = All (λ name. map.get table name ≡ map.get other name) (map.keys table)
