-- The lists of the tables so far.
use Rattle.std.proofs.Common.{◌≡◌, map, take}
use Rattle.vet_rows.specs.RowsOf.{rows_by}
use Rattle.vet_rows.proofs.rows_of.rows_by.Given as goal
use Rattle.vet_tables.specs.Forms.{tables}

abbrev pub invariant-tables : goal.invariant-tables
invariant-tables g l = l.rows.tables.items ≡ map (rows_by l.version l.register.state) (take l.at tables)
