-- What tables are after changes (ours).
use Rattle.std.specs.Prelude.{List, [], ◌∷◌}
use Rattle.vet_rows.specs.declared.row_change.RowChange.{RowChange}
use Rattle.vet_rows.specs.declared.row_change.RowChange.TheVariants.{Put, Drop, Clear}
use Rattle.vet_tables.specs.Cells.{RowsValue, cleared, dropped, put}

-- the tables after a change
abbrev pub changed : RowChange → RowsValue → RowsValue
changed (Put table row) rows = put table row rows
changed (Drop table row) rows = dropped table row rows
changed (Clear table) rows = cleared table rows

-- the tables after changes, made in their order
abbrev pub all_changed : List RowChange → RowsValue → RowsValue
all_changed [] rows = rows
all_changed (change ∷ rest) rows = all_changed rest (changed change rows)
