-- The texts of the statements on a table (ours, in SQLite's language).
use Rattle.std.specs.Prelude.{List, [], ◌∷◌, ◌++◌, codes, map, take, ◌≡◌}
use Rattle.sqlite_schema.specs.declared.schema.Kind.{Kind}
use Rattle.sqlite_schema.specs.declared.schema.Kind.TheVariants.{Any, Blob, Integer, Real, Text}
use Rattle.vet_base.specs.Words.{Name, Text as Sql}
use Rattle.vet_tables.specs.Form.{ColumnForm, TableForm, key_index}

-- the parts, with a text between each two
abbrev pub joined : Sql → List Sql → Sql
joined between [] = []
joined between (part ∷ []) = part
joined between (part ∷ next ∷ rest) = part ++ (between ++ joined between (next ∷ rest))

abbrev pub kind_word : Kind → Sql
kind_word Integer = codes "INTEGER"
kind_word Real = codes "REAL"
kind_word Text = codes "TEXT"
kind_word Blob = codes "BLOB"
kind_word Any = codes "ANY"

abbrev pub column_text : ColumnForm → Sql
column_text c = c.0 ++ (codes " " ++ (kind_word c.1 ++ codes " NOT NULL"))

abbrev pub key_names : TableForm → List Name
key_names form = take form.key (map (λ (c : ColumnForm). c.0) form.columns)

abbrev pub create_text : TableForm → Sql
create_text form =
    codes "CREATE TABLE " ++ (form.name ++ (codes " (" ++ (joined (codes ", ") (map column_text form.columns)
    ++ (codes ", PRIMARY KEY (" ++ (joined (codes ", ") (key_names form) ++ codes ")) STRICT")))))

abbrev pub insert_text : TableForm → Sql
insert_text form =
    codes "INSERT INTO " ++ (form.name ++ (codes " VALUES ("
    ++ (joined (codes ", ") (map (λ c. codes "?") form.columns) ++ codes ")")))

abbrev pub delete_text : TableForm → Sql
delete_text form =
    codes "DELETE FROM " ++ (form.name ++ (codes " WHERE "
    ++ joined (codes " AND ") (map (λ name. name ++ codes " = ?") (key_names form))))

-- without a test, so that all rows go
abbrev pub clear_text : TableForm → Sql
clear_text form = codes "DELETE FROM " ++ form.name

-- the rowid and the columns of each row, by the rowid
abbrev pub select_text : TableForm → Sql
select_text form = codes "SELECT rowid, * FROM " ++ (form.name ++ codes " ORDER BY rowid")

-- the name of the index of the key, and texts that are the statements of a form
pub record HasTexts (form : TableForm) (index create insert delete clear select : Sql) : Type 0 where
  pub index_is : index ≡ key_index form
  pub create_is : create ≡ create_text form
  pub insert_is : insert ≡ insert_text form
  pub delete_is : delete ≡ delete_text form
  pub clear_is : clear ≡ clear_text form
  pub select_is : select ≡ select_text form
