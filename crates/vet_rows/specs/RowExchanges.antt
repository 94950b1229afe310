-- Rows of a table that are removed and others that are added, and the changes that do so (ours).
use Rattle.std.specs.Cmp.Lexicographic.{pointwise}
use Rattle.std.specs.Prelude.{◌++◌, Bool, List, [], ◌∷◌, cond, filter, map, not, true, false}
use Rattle.std.specs.List.{list_any}
use Rattle.vet_base.specs.declared.keyed.KeyedEdit.{KeyedEdit}
use Rattle.vet_rows.specs.KeyedItems.{added_item, removed_item, rows_if}
use Rattle.vet_rows.specs.declared.row_change.RowChange.{RowChange}
use Rattle.vet_rows.specs.declared.row_change.RowChange.TheVariants.{Put, Drop}
use Rattle.vet_rows.specs.declared.row_changes.exchange.Exchange.{Exchange}
use Rattle.vet_tables.specs.Cells.{Row, cell_eq}
use Rattle.vet_tables.specs.declared.table_name.DemandTable.TheVariants.{Edges, Nodes}
use Rattle.vet_tables.specs.declared.table_name.FactsTable.TheVariants.{Entries, Publishers}
use Rattle.vet_tables.specs.declared.table_name.TableName.{TableName}
use Rattle.vet_tables.specs.declared.table_name.TableName.TheVariants as table

-- ---- exchanges

-- some rows of a table for others
abbrev pub exchange_of : TableName → List Row → List Row → Exchange
exchange_of name removed added = record { table = name; removed = removed; added = added }

-- the rows of the item that an edit of a list by key removes, for those of the item that it adds
abbrev pub item_exchange : {E : Type 0} → TableName → (E → List Row) → KeyedEdit E → List E → Exchange
item_exchange name rows_of edit items =
    exchange_of name (rows_if rows_of (removed_item edit items)) (rows_if rows_of (added_item edit))

-- ---- the rows that differ

-- two rows are the same
abbrev pub same_row : Row → Row → Bool
same_row = pointwise cell_eq

-- the rows that are not among others
abbrev pub less : List Row → List Row → List Row
less rows others = filter (λ r. not (list_any (same_row r) others)) rows

-- those that have no mark
abbrev pub unmarked : {R : Type 0} → List R → List Bool → List R
unmarked [] marks = []
unmarked (r ∷ rows) [] = r ∷ unmarked rows []
unmarked (r ∷ rows) (mark ∷ marks) = cond mark (unmarked rows marks) (r ∷ unmarked rows marks)

-- There may be thousands of entries, publisher records, nodes, edges and last days. Any of their rows that would be
-- removed and added again stays, and so does the row of the register's day.
abbrev pub is_compared : TableName → Bool
is_compared (table.Facts Entries) = true
is_compared (table.Facts Publishers) = true
is_compared (table.Demand Nodes) = true
is_compared (table.Demand Edges) = true
is_compared (table.Days t) = true
is_compared _ = false

-- so of rows that are exchanged for others, these are the ones that are written
abbrev pub differing : TableName → List Row → List Row → List Row
differing name rows others = cond (is_compared name) (less rows others) rows

-- ---- changes

-- each row that is removed is dropped, and then each that is added is put
abbrev pub drops_then_puts : TableName → List Row → List Row → List RowChange
drops_then_puts name removed added = map (λ r. Drop name r) removed ++ map (λ r. Put name r) added

-- the same for the rows of an exchange that differ
abbrev pub row_changes_of : Exchange → List RowChange
row_changes_of e =
    drops_then_puts e.table (differing e.table e.removed e.added) (differing e.table e.added e.removed)
