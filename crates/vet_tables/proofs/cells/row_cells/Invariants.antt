-- The cells so far.
use Rattle.std.proofs.Common.{◌≡◌}
use Rattle.vet_tables.proofs.WholeRows.{columns_from}
use Rattle.vet_tables.proofs.cells.row_cells.Given as goal
use Rattle.vet_tables.specs.Cells.{values_of}
use Rattle.vet_tables.specs.Typed.{AreTyped, kinds_of}

abbrev pub invariant-cells : goal.invariant-cells
invariant-cells l = AreTyped (kinds_of l.fn.form) l.row → values_of l.cells.items ≡ columns_from l.row l.at
