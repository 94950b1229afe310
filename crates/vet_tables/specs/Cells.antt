-- Rows as lists of cells (ours).
use Rattle.sqlite_value.specs.Order.{Row as Values}
use Rattle.sqlite_value.specs.declared.value.Value.{Value}
use Rattle.sqlite_value.specs.declared.value.Value.TheVariants as value
use Rattle.std.specs.Cmp.Lexicographic.{pointwise}
use Rattle.std.specs.Ordering.{int_eq}
use Rattle.std.specs.Prelude.{◌==◌, ◌&&◌, Bool, List, [], ◌∷◌, false, filter, if◌then◌else◌, map, nat_eq, not}
use Rattle.std.specs.Prelude.{slice_index_or, suc, true, zero, ℕ}
use Rattle.vet_base.specs.Items.{SameItems}
use Rattle.vet_tables.specs.Contents.{Contents}
use Rattle.vet_tables.specs.Form.{TableForm}
use Rattle.vet_tables.specs.Forms.{code, form_of}
use Rattle.vet_tables.specs.Typed.{AreSorts, kinds_of}
use Rattle.vet_tables.specs.declared.cell.Cell.{Cell}
use Rattle.vet_tables.specs.declared.cell.Cell.TheVariants.{Int, Text, Blob}
use Rattle.vet_tables.specs.declared.rows.Rows.{Rows}
use Rattle.vet_tables.specs.declared.table_name.TableName.{TableName}

-- ---- cells

-- a cell, as a value of SQL
abbrev pub value_of : Cell → Value
value_of (Int n) = value.Int n
value_of (Text t) = value.Text t
value_of (Blob b) = value.Blob b

abbrev pub cell_eq : Cell → Cell → Bool
cell_eq (Int m) (Int n) = int_eq m n
cell_eq (Text s) (Text t) = pointwise nat_eq s t
cell_eq (Blob b) (Blob c) = pointwise nat_eq b c
cell_eq _ _ = false

-- ---- rows

abbrev pub Row : Type 0
Row = List Cell

abbrev pub values_of : Row → Values
values_of row = map value_of row

-- for each column of the table one cell of its type
abbrev pub IsRowOf : TableForm → Row → Type 0
IsRowOf form row = AreSorts (kinds_of form) (values_of row)

-- both have these many cells, and the same ones
abbrev pub same_first : ℕ → Row → Row → Bool
same_first zero a b = true
same_first (suc n) (x ∷ a) (y ∷ b) = cell_eq x y && same_first n a b
same_first (suc n) _ _ = false

-- two rows of a table can't both be in it: they have the same key
abbrev pub same_key : TableForm → Row → Row → Bool
same_key form = same_first form.key

-- ---- the rows of all tables

-- a list for each table
abbrev pub RowsValue : Type 0
RowsValue = TableName → List Row

abbrev pub no_rows : RowsValue
no_rows table = []

abbrev pub rows_in : Rows → RowsValue
rows_in rows table = slice_index_or rows.tables.items (code table) []

-- their cells, as values of SQL
abbrev pub contents_of : RowsValue → Contents
contents_of rows table = map values_of (rows table)

-- each table has the same rows, in whatever order
abbrev pub SameRows : RowsValue → RowsValue → Type 0
SameRows a b = (table : TableName) → SameItems (a table) (b table)

-- ---- one row more, one fewer, and none

-- one row more, whatever its key
abbrev pub added : TableName → Row → RowsValue → RowsValue
added table row rows name = if code name == code table then row ∷ rows name else rows name

-- without the row of this key in its table
abbrev pub dropped : TableName → Row → RowsValue → RowsValue
dropped table row rows name =
    if code name == code table then filter (λ other. not (same_key (form_of table) row other)) (rows name)
    else rows name

-- no row left in a table
abbrev pub cleared : TableName → RowsValue → RowsValue
cleared table rows name = if code name == code table then [] else rows name

-- a row put into its table, in place of the one of its key
abbrev pub put : TableName → Row → RowsValue → RowsValue
put table row rows = added table row (dropped table row rows)
