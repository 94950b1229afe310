-- The rows of the review desk (ours).
use Rattle.std.specs.Prelude.{List, map}
use Rattle.vet_desk.specs.Desk.{DeskState}
use Rattle.vet_item_rows.specs.DeskRows.{member_row, review_row}
use Rattle.vet_tables.specs.Cells.{Row}
use Rattle.vet_tables.specs.declared.table_name.DeskTable.{DeskTable}
use Rattle.vet_tables.specs.declared.table_name.DeskTable.TheVariants.{Members, Reviews}

-- in each of its tables
abbrev pub rows_of_desk : DeskState → DeskTable → List Row
rows_of_desk desk Members = map member_row desk.members
rows_of_desk desk Reviews = map review_row desk.reviews
