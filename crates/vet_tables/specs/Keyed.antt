-- The key of a row (ours).
use Rattle.std.specs.Prelude.{◌&&◌, ◌+◌, Bool, List, [], ◌∷◌, true, ℕ}
use Rattle.sqlite_schema.specs.Rules.{equal}
use Rattle.sqlite_value.specs.Order.{Row as Cells, column}
use Rattle.sqlite_value.specs.declared.keys.Collation.TheVariants.{Binary}
use Rattle.vet_tables.specs.Form.{TableForm, key_columns}

-- the cells have these values of the key, from a place in it on
abbrev pub keyed_from : Cells → Cells → ℕ → List ℕ → Bool
keyed_from key cells i [] = true
keyed_from key cells i (at ∷ more) = equal Binary (column cells at) (column key i) && keyed_from key cells (i + 1) more

-- the cells have these values in the columns of the key
abbrev pub is_keyed : TableForm → Cells → Cells → Bool
is_keyed form key cells = keyed_from key cells 0 (key_columns form)
