-- How the texts parse, and what is told of the columns of their keys.
use Rattle.std.proofs.Common.{◌≡◌, List, [], ◌∷◌, ◌+◌, ℕ, true, false, Ok, Err, None, Some, Option, refl, length}
use Rattle.std.proofs.Common.{unwrap_or, slice_get, if◌then◌else◌, option_map, ◌<◌, ◌-◌, rules}
use Rattle.sqlite_ast.specs.declared.Conflict.TheVariants as conflict
use Rattle.sqlite_ast.specs.declared.Core.{Core, out-Core}
use Rattle.sqlite_ast.specs.Layer.{ShownLayer}
use Rattle.sqlite_ast.specs.declared.Expr.{Expr, out-Expr}
use Rattle.sqlite_ast.specs.declared.Expr.TheOpen.{Expr-F, Shown-F}
use Rattle.sqlite_ast.specs.declared.Origin.TheVariants as origin
use Rattle.sqlite_ast.specs.declared.Rows.{Rows}
use Rattle.sqlite_ast.specs.declared.Rows.TheVariants as written_rows
use Rattle.sqlite_ast.specs.declared.Select.{Select, out-Select}
use Rattle.sqlite_ast.specs.declared.Shown.{Shown, out-Shown}
use Rattle.sqlite_ast.specs.declared.Sort.{Sort, out-Sort}
use Rattle.sqlite_ast.specs.declared.Source.{Source, out-Source}
use Rattle.sqlite_ast.specs.declared.Statement.{Statement}
use Rattle.sqlite_ast.specs.declared.Statement.TheVariants as written
use Rattle.sqlite_resolve.specs.Compile.{first, new_rows, small}
use Rattle.sqlite_resolve.specs.Lowering.{Checked, alone, chosen, first_found, nothing}
use Rattle.sqlite_resolve.specs.Scope.{Name, declared}
use Rattle.vet_tables.proofs.Selects.{rowid_name}
use Rattle.sqlite_resolve.specs.Terms.{conjuncts}
use Rattle.sqlite_value.specs.declared.keys.Collation.TheVariants.{Binary}
use Rattle.sqlite_schema.specs.Names.{column_named, is_key, place_of, same_name}
use Rattle.sqlite_schema.specs.declared.command.Source.TheVariants.{Values}
use Rattle.sqlite_schema.specs.declared.schema.Column.{Column}
use Rattle.sqlite_schema.specs.declared.schema.Kind.TheVariants.{Text}
use Rattle.sqlite_schema.specs.declared.schema.Schema.{Schema}
use Rattle.sqlite_schema.specs.declared.schema.Table.{Table}
use Rattle.sqlite_sql.specs.Term.{Term, col, lit}
use Rattle.sqlite_syntax.specs.declared.statement.Parsed.{Parsed}
use Rattle.sqlite_tied.specs.Compute.{everything}
use Rattle.sqlite_value.specs.declared.value.Value.TheVariants as value
use Rattle.std.specs.List.{AllByRecursion}
use Rattle.vet_tables.proofs.KeyTests.{AreTests, IsColumn, Key, affinity_in, cost, depth, equal_term, is_settled}
use Rattle.vet_tables.proofs.KeyTests.{test_term}
use Rattle.vet_tables.proofs.TablePlaces.{each}
use Rattle.vet_tables.specs.Form.{ColumnForm, TableForm, column_of, key_columns, place, rowid_of, table_of}
use Rattle.vet_tables.specs.Forms.{form_of}
use Rattle.vet_tables.specs.Texts.{clear_text, delete_text, insert_text, select_text}
use Rattle.vet_tables.specs.declared.table_name.TableName.{TableName}

abbrev pub parsed : Checked Parsed → Parsed
parsed (Ok p) = p
parsed (Err e) = record { statement = written.Empty; names = []; formats = []; start = 0; end = 0; tail = 0 }

abbrev pub rows_of : Statement → Rows
rows_of (written.Insert how name columns rows clauses shown) = rows
rows_of _ = written_rows.Defaults

abbrev pub test_of : Statement → Option Expr
test_of (written.Delete name test shown) = test
test_of _ = None

-- ---- INSERT

abbrev pub inserted : TableName → Parsed
inserted n = parsed (first (insert_text (form_of n)))

-- the rows of an INSERT, as they are written
abbrev pub given_rows : TableName → Rows
given_rows n = rows_of (inserted n).statement

pub insert_parses : (n : TableName) → (first (insert_text (form_of n)) ≡ Ok (inserted n))
    × ((inserted n).statement ≡ written.Insert conflict.Abort (form_of n).name [] (given_rows n) [] [])
    × ((inserted n).formats ≡ [])
unfolding everything
insert_parses n =
    each (λ n. (first (insert_text (form_of n)) ≡ Ok (inserted n))
    × ((inserted n).statement ≡ written.Insert conflict.Abort (form_of n).name [] (given_rows n) [] [])
    × ((inserted n).formats ≡ [])) (assumption refl) n

abbrev pub rowid_term : Option ℕ → Term
rowid_term None = lit value.Null
rowid_term (Some at) = col 0 at

abbrev pub unless_key : Option ℕ → ℕ → Term
unless_key rowid at = if is_key rowid at then lit value.Null else col 0 at

abbrev pub terms_from : TableForm → ℕ → List ColumnForm → List Term
terms_from form at [] = []
terms_from form at (c ∷ more) = unless_key (rowid_of form) at ∷ terms_from form (at + 1) more

-- the rowid, and then the columns, in which the rowid isn't kept again
abbrev pub insert_terms : TableForm → List Term
insert_terms form = rowid_term (rowid_of form) ∷ terms_from form 0 form.columns

pub insert_values : (n : TableName) (schema : Schema) (tree : ℕ)
    → new_rows schema (table_of (form_of n) tree) (small (inserted n).names + small []) [] (given_rows n) ≡ Ok
    (Values (insert_terms (form_of n)) (length (form_of n).columns + 1))
unfolding everything
insert_values n schema tree =
    each (λ n. new_rows schema (table_of (form_of n) tree) (small (inserted n).names + small []) [] (given_rows n)
    ≡ Ok (Values (insert_terms (form_of n)) (length (form_of n).columns + 1))) (assumption refl) n

-- ---- DELETE

abbrev pub removed : TableName → Parsed
removed n = parsed (first (delete_text (form_of n)))

abbrev pub given_test : TableName → Option Expr
given_test n = test_of (removed n).statement

pub delete_parses : (n : TableName) → (first (delete_text (form_of n)) ≡ Ok (removed n))
    × ((removed n).statement ≡ written.Delete (form_of n).name (given_test n) []) × ((removed n).formats ≡ [])
unfolding everything
delete_parses n =
    each (λ n. (first (delete_text (form_of n)) ≡ Ok (removed n))
    × ((removed n).statement ≡ written.Delete (form_of n).name (given_test n) [])
    × ((removed n).formats ≡ [])) (assumption refl) n

-- a DELETE without a test
abbrev pub emptied : TableName → Parsed
emptied n = parsed (first (clear_text (form_of n)))

pub clear_parses : (n : TableName) → (first (clear_text (form_of n)) ≡ Ok (emptied n))
    × ((emptied n).statement ≡ written.Delete (form_of n).name None []) × ((emptied n).formats ≡ [])
unfolding everything
clear_parses n =
    each (λ n. (first (clear_text (form_of n)) ≡ Ok (emptied n))
    × ((emptied n).statement ≡ written.Delete (form_of n).name None [])
    × ((emptied n).formats ≡ [])) (assumption refl) n

abbrev pub IsKnown : Table → Key → Type 0
IsKnown table key = (k : ℕ) × (c : Column) × IsColumn table key.0 k c × (key.1 ≡ col 1 (place_of table k))

abbrev IsSettled : Table → List ℕ → ℕ → Column → Type 0
IsSettled table name k c =
    (column_named table name ≡ Some k) × (slice_get table.columns k ≡ Some c)
    × (chosen (declared table k c) nothing ≡ Binary) × (is_settled (affinity_in table (place_of table k)) ≡ true)

abbrev pub is_test : Option Expr → List Key → Type 0
is_test None ks = ⊥
is_test (Some e) ks = AreTests ks e

abbrev pub name_at : TableForm → ℕ → List ℕ
name_at form at = unwrap_or (option_map (λ (c : ColumnForm). c.0) (slice_get form.columns at)) []

-- the keys with their terms, the last first
abbrev pub keys_after : TableForm → List Key → List ℕ → List Key
keys_after form done [] = done
keys_after form done (at ∷ more) = keys_after form ((name_at form at, col 1 (place form at)) ∷ done) more

abbrev pub delete_keys : TableForm → List Key
delete_keys form = keys_after form [] (key_columns form)

abbrev pub tests_from : TableForm → ℕ → List ℕ → List Term
tests_from form i [] = []
tests_from form i (at ∷ more) = equal_term (col 1 (place form at)) i ∷ tests_from form (i + 1) more

abbrev pub key_tests : TableForm → List Term
key_tests form = tests_from form 0 (key_columns form)

pub delete_tests : (n : TableName) → is_test (given_test n) (delete_keys (form_of n))
unfolding everything
delete_tests n = each (λ n. is_test (given_test n) (delete_keys (form_of n))) (assumption refl) n

pub delete_terms : (n : TableName) → conjuncts (test_term (delete_keys (form_of n))) ≡ key_tests (form_of n)
delete_terms n = each (λ n. conjuncts (test_term (delete_keys (form_of n))) ≡ key_tests (form_of n)) (assumption refl) n

-- how deep below the top the tests end
abbrev pub delete_depth : TableName → ℕ
delete_depth n = 699 - length (delete_keys (form_of n))

pub delete_deep : (n : TableName) → depth (delete_keys (form_of n)) (delete_depth n) ≡ 700
delete_deep n = each (λ n. depth (delete_keys (form_of n)) (delete_depth n) ≡ 700) (assumption refl) n

pub delete_cheap : (n : TableName) → cost (delete_keys (form_of n)) < 100000
delete_cheap n = each (λ n. cost (delete_keys (form_of n)) < 100000) (search rules) n

abbrev column_at : TableForm → ℕ → Column
column_at form at = unwrap_or (option_map column_of (slice_get form.columns at)) (column_of ([], Text))

-- the columns of the key are known
settled : (n : TableName) (tree : ℕ) → AllByRecursion
    (λ at. IsSettled (table_of (form_of n) tree) (name_at (form_of n) at) at (column_at (form_of n) at))
    (key_columns (form_of n))
unfolding same_name chosen first_found alone
settled n tree =
    each (λ n. AllByRecursion
    (λ at. IsSettled (table_of (form_of n) tree) (name_at (form_of n) at) at (column_at (form_of n) at))
    (key_columns (form_of n))) (assumption refl) n

known_after : (form : TableForm) (tree : ℕ) (done : List Key) (places : List ℕ)
    → AllByRecursion (IsKnown (table_of form tree)) done
    → AllByRecursion (λ at. IsSettled (table_of form tree) (name_at form at) at (column_at form at)) places
    → AllByRecursion (IsKnown (table_of form tree)) (keys_after form done places)
known_after form tree done [] known all = known
known_after form tree done (at ∷ more) known all =
    let it = all.0 in
    known_after form tree ((name_at form at, col 1 (place form at)) ∷ done) more (
      (at, column_at form at, record { named = it.0; has = it.1; how = it.2; settled = it.3 }, refl),
      known,
    ) all.1

pub delete_columns : (n : TableName) (tree : ℕ) → AllByRecursion (IsKnown (table_of (form_of n) tree))
    (delete_keys (form_of n))
delete_columns n tree = known_after (form_of n) tree [] (key_columns (form_of n)) tt (settled n tree)

-- ---- SELECT

abbrev pub selected : TableName → Parsed
selected n = parsed (first (select_text (form_of n)))

abbrev pub IsOrder : List Sort → Type 0
IsOrder (by ∷ []) = ((out-Sort by).descending ≡ false) × ((out-Sort by).nulls_first ≡ None)
    × (out-Expr (out-Sort by).key ≡ Expr-F.Column None rowid_name)
IsOrder _ = ⊥

abbrev pub IsOne : ShownLayer → Type 0
IsOne (Shown-F.One e None text) = out-Expr e ≡ Expr-F.Column None rowid_name
IsOne _ = ⊥

abbrev pub AreShown : List Shown → Type 0
AreShown (one ∷ all ∷ []) = IsOne (out-Shown one) × (out-Shown all ≡ Shown-F.All)
AreShown _ = ⊥

abbrev pub IsFrom : Name → List Source → Type 0
IsFrom name (from ∷ []) = out-Source from ≡ record {
  is_left = false;
  origin = origin.Table name;
  alias = None;
  on =
      None;
  using = [];
}
IsFrom name _ = ⊥

abbrev pub IsCore : Name → Core → Type 0
IsCore name core =
    ((out-Core core).distinct ≡ false) × AreShown (out-Core core).shown × IsFrom name (out-Core core).from
    × ((out-Core core).filter ≡ None) × ((out-Core core).group ≡ []) × ((out-Core core).having ≡ None)

abbrev pub IsSelect : Name → Select → Type 0
IsSelect name s =
    ((out-Select s).with ≡ []) × ((out-Select s).others ≡ []) × ((out-Select s).limit ≡ None)
    × ((out-Select s).offset ≡ None) × IsOrder (out-Select s).order × IsCore name (out-Select s).first

abbrev pub IsSelection : Name → Statement → Type 0
IsSelection name (written.Select s) = IsSelect name s
IsSelection name _ = ⊥

pub select_parses : (n : TableName) → (first (select_text (form_of n)) ≡ Ok (selected n))
    × IsSelection (form_of n).name (selected n).statement × ((selected n).formats ≡ [])
unfolding everything
select_parses n =
    each (λ n. (first (select_text (form_of n)) ≡ Ok (selected n)) × IsSelection (form_of n).name (selected n).statement
    × ((selected n).formats ≡ [])) (assumption refl) n
