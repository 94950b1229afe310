-- Changes of rows that have the columns of their tables (ours).
use Rattle.vet_rows.specs.declared.row_change.RowChange.{RowChange}
use Rattle.vet_rows.specs.declared.row_change.RowChange.TheVariants.{Put, Drop, Clear}
use Rattle.vet_tables.specs.Cells.{IsRowOf}
use Rattle.vet_tables.specs.Forms.{form_of}

-- the row that a change puts or removes, if it names one, has a cell of its type for each column
abbrev pub Fits : RowChange → Type 0
Fits (Put table row) = IsRowOf (form_of table) row
Fits (Drop table row) = IsRowOf (form_of table) row
Fits (Clear table) = Unit {0}
