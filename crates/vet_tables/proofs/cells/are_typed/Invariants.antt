use Rattle.std.proofs.Common.{◌<◌, ◌+◌, ℕ, slice_index_or}
use Rattle.sqlite_schema.specs.declared.schema.Kind.TheVariants as kind
use Rattle.sqlite_value.specs.Order.{column}
use Rattle.vet_tables.proofs.cells.are_typed.Given as goal
use Rattle.vet_tables.specs.Typed.{IsKind, kinds_of}

abbrev pub invariant-cells : goal.invariant-cells
invariant-cells l = (k : ℕ) → k < l.at → IsKind (slice_index_or (kinds_of l.fn.form) k kind.Any) (column l.row (k + 1))
