-- The tables so far have the same rows.
use Rattle.std.proofs.Common.{◌<◌}
use Rattle.vet_base.specs.Items.{SameItems}
use Rattle.vet_tables.proofs.same_rows.have_same_rows.Given as goal
use Rattle.vet_tables.specs.Cells.{rows_in}
use Rattle.vet_tables.specs.Forms.{code}
use Rattle.vet_tables.specs.declared.table_name.TableName.{TableName}

abbrev pub invariant-tables : goal.invariant-tables
invariant-tables l = (table : TableName) → code table < l.at → SameItems (rows_in l.a table) (rows_in l.b table)
