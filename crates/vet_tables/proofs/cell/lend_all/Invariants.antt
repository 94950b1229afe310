-- The values that were lent so far.
use Rattle.std.proofs.Common.{◌≡◌, map, take}
use Rattle.sqlite.specs.Values.{bound}
use Rattle.vet_tables.specs.Cells.{value_of}
use Rattle.vet_tables.proofs.cell.lend_all.Given as goal

abbrev pub invariant-cells : goal.invariant-cells
invariant-cells l = bound l.values.items ≡ map value_of (take l.cell-index l.cells)
