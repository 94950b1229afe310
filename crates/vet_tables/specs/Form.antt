-- The form of a table, and the table that SQLite keeps of that form (ours).
use Rattle.sqlite_value.specs.declared.keys.Collation.TheVariants.{Binary}
use Rattle.std.specs.Prelude.{List, Option, None, Some, [], ◌∷◌, ◌++◌, codes, false, map, true, ◌+◌, ℕ, zero, suc}
use Rattle.std.specs.List.{range_with_len}
use Rattle.sqlite_schema.specs.Names.{place_of}
use Rattle.sqlite_schema.specs.declared.schema.Column.{Column}
use Rattle.sqlite_schema.specs.declared.schema.Kind.{Kind}
use Rattle.sqlite_schema.specs.declared.schema.Kind.TheVariants.{Integer}
use Rattle.sqlite_schema.specs.declared.schema.Table.{Table}
use Rattle.sqlite_value.specs.Keys.{plain}
use Rattle.sqlite_value.specs.Order.{Row, column}
use Rattle.sqlite_value.specs.declared.keys.Order.{Order}
use Rattle.sqlite_value.specs.declared.value.Value.TheVariants.{Null}
use Rattle.vet_base.specs.Words.{Name}

-- a column: its name and its type
abbrev pub ColumnForm : Type 0
ColumnForm = Name × Kind

pub record TableForm : Type 0 where
  pub name : Name
  pub columns : List ColumnForm
  -- how many columns, from the first on, are the key
  pub key : ℕ

-- the places of the key's columns among the columns
abbrev pub key_columns : TableForm → List ℕ
key_columns form = range_with_len 0 form.key

-- a key of one integer is the rowid
abbrev pub rowid_for : ℕ → Kind → Option ℕ
rowid_for (suc zero) Integer = Some 0
rowid_for _ _ = None

abbrev pub rowid_among : ℕ → List ColumnForm → Option ℕ
rowid_among key [] = None
rowid_among key (c ∷ more) = rowid_for key c.1

-- the column that is the rowid
abbrev pub rowid_of : TableForm → Option ℕ
rowid_of form = rowid_among form.key form.columns

-- no column takes NULL
abbrev pub column_of : ColumnForm → Column
column_of c = record { name = c.0; kind = c.1; is_strict = true; not_null = true; default = Null; collation = Binary }

-- a key that is not the rowid is one UNIQUE
abbrev pub uniques_for : Option ℕ → List ℕ → List (List ℕ)
uniques_for None places = places ∷ []
uniques_for (Some at) places = []

abbrev pub orders_for : Option ℕ → List Order
orders_for None = plain ∷ []
orders_for (Some at) = []

abbrev pub bare_table : TableForm → ℕ → Table
bare_table form tree = record {
  name = form.name;
  tree = tree;
  columns = map column_of form.columns;
  key = rowid_of form;
  primary = [];
  uniques = [];
  orders = [];
  checks = [];
  references = [];
  computed = [];
  stamps = record { places = []; terms = []; formats = [] };
  is_counted = false;
}

-- where a row of the tree has the value of a column
abbrev pub place : TableForm → ℕ → ℕ
place form at = place_of (bare_table form 0) at

-- where a row has the first column: the rowid is first, and if it is no column, the columns follow it
abbrev pub first_place : Option ℕ → ℕ
first_place None = 1
first_place (Some at) = 0

-- where a row has the columns of the key
abbrev pub key_places : TableForm → List ℕ
key_places form = range_with_len (first_place (rowid_of form)) form.key

-- the table of this form that has its rows in this tree
abbrev pub table_of : TableForm → ℕ → Table
table_of form tree = record (bare_table form tree) {
  primary = key_places form;
  uniques = uniques_for (rowid_of form) (key_places form);
  orders = orders_for (rowid_of form);
}

abbrev pub places_from : TableForm → ℕ → List ColumnForm → List ℕ
places_from form at [] = []
places_from form at (c ∷ more) = place form at ∷ places_from form (at + 1) more

-- what a row of the tree shows in the columns
abbrev pub shown : TableForm → Row → Row
shown form row = map (column row) (places_from form 0 form.columns)

-- the key of a row that shows these cells
abbrev pub key_of : TableForm → Row → Row
key_of form cells = map (column cells) (key_columns form)

-- the index that SQLite makes for the key
abbrev pub key_index : TableForm → Name
key_index form = codes "sqlite_autoindex_" ++ (form.name ++ codes "_1")
