-- What a statement does to the contents of a table, told of the rows.
use Rattle.std.proofs.Common.{◌≡◌, ◌≤◌, ℕ, inl, inr, List, filter, length, map, not, sym, ap, subst, ◌∙◌, take}
use Rattle.std.proofs.lemmas.List.{get_or-take, length-map, length-take-le, take-map}
use Rattle.std.proofs.lemmas.List.FromFn.{fill_by_all}
use Rattle.std.specs.List.{range_with_len}
use Rattle.sqlite.specs.State.{State}
use Rattle.sqlite.specs.Values.{bound, bound_value}
use Rattle.sqlite_rules.proofs.ListLemmas.{all_from}
use Rattle.sqlite_trees.proofs.ListLemmas.{filter-map, filter_same}
use Rattle.sqlite_value.specs.Order.{Row as Values, column}
use Rattle.sqlite_value.specs.Value.{owned}
use Rattle.sqlite_value.specs.declared.value.Value.TheVariants.{Null}
use Rattle.sqlite_value.specs.declared.value.ValueRef.{ValueRef}
use Rattle.vet_store.specs.Changes.{Changes, TellsRow}
use Rattle.vet_tables.proofs.Effects as effects
use Rattle.vet_tables.proofs.Effects.{same_contents}
use Rattle.vet_tables.proofs.KeyedRows.{same_key_is}
use Rattle.vet_tables.proofs.RowForms.{is_wide}
use Rattle.vet_tables.proofs.TablePlaces.{key_within, same_or_other}
use Rattle.vet_tables.proofs.TableRows.{added_elsewhere, added_here, cleared_elsewhere, cleared_here}
use Rattle.vet_tables.proofs.TableRows.{dropped_elsewhere, dropped_here}
use Rattle.vet_tables.specs.Cells.{IsRowOf, Row, RowsValue, added, cleared, contents_of, dropped, same_key}
use Rattle.vet_tables.specs.Cells.{value_of, values_of}
use Rattle.vet_tables.specs.Contents as tables
use Rattle.vet_tables.specs.Contents.{Contents}
use Rattle.vet_tables.specs.Form.{TableForm, key_of}
use Rattle.vet_tables.specs.Forms.{form_of}
use Rattle.vet_tables.specs.Keyed.{is_keyed}
use Rattle.vet_tables.specs.Typed.{AreSorts, kinds_of}
use Rattle.vet_tables.specs.declared.table_name.TableName.{TableName}

changes_of : (old new : State) (change : Contents → Contents) (next : RowsValue → RowsValue)
    → ((rows : RowsValue) (n : TableName) → change (contents_of rows) n ≡ contents_of (next rows) n)
    → tables.Changes old new change → Changes old new next
changes_of old new change next same h = record {
  was_open = h.was_open;
  is_open = h.is_open;
  committed = h.committed;
  inside = h.inside;
  holds = λ rows was. same_contents new.now (change (contents_of rows)) (contents_of (next rows)) (same rows)
      (h.holds (contents_of rows) was);
  spares = h.spares;
}

-- ---- a row is added

added_is : (table : TableName) (row : Row) (rows : RowsValue) (n : TableName)
    → tables.added table (values_of row) (contents_of rows) n ≡ contents_of (added table row rows) n
added_is table row rows n = elim (same_or_other n table) [
  | inl same ↦ subst
      (λ m. tables.added table (values_of row) (contents_of rows) m ≡ contents_of (added table row rows) m) (sym same)
      (effects.added_here table (values_of row) (contents_of rows)
      ∙ ap (map values_of) (sym (added_here table row rows)))
  | inr apart ↦ effects.added_elsewhere n table (values_of row) (contents_of rows) apart
      ∙ ap (map values_of) (sym (added_elsewhere n table row rows apart))
]

pub adds : (table : TableName) (row : Row) (values : Values) (old new : State) → TellsRow table row values
    → (AreSorts (kinds_of (form_of table)) values → tables.Changes old new (tables.added table values))
    → Changes old new (added table row)
adds table row values old new tells h =
    let sorts = subst (AreSorts (kinds_of (form_of table))) (sym tells.are) tells.fits in
    changes_of old new (tables.added table (values_of row)) (added table row) (added_is table row)
    (subst (λ v. tables.Changes old new (tables.added table v)) tells.are (h sorts))

-- ---- a row is dropped

kept : (form : TableForm) (row : Row) (rows : List Row)
    → filter (λ values. not (is_keyed form (key_of form (values_of row)) values)) (map values_of rows)
    ≡ map values_of (filter (λ other. not (same_key form row other)) rows)
kept form row rows =
    filter-map (λ values. not (is_keyed form (key_of form (values_of row)) values)) values_of rows
    ∙ ap (map values_of) (filter_same _ _ rows (all_from _ rows (λ other i. ap not (same_key_is form row other))))

dropped_is : (table : TableName) (row : Row) (rows : RowsValue) (n : TableName)
    → tables.dropped table (key_of (form_of table) (values_of row)) (contents_of rows) n
    ≡ contents_of (dropped table row rows) n
dropped_is table row rows n = let key = key_of (form_of table) (values_of row) in elim (same_or_other n table) [
  | inl same ↦ subst
      (λ m. tables.dropped table key (contents_of rows) m ≡ contents_of (dropped table row rows) m) (sym same)
      (effects.dropped_here table key (contents_of rows) ∙ kept (form_of table) row (rows table)
      ∙ ap (map values_of) (sym (dropped_here table row rows)))
  | inr apart ↦ effects.dropped_elsewhere n table key (contents_of rows) apart
      ∙ ap (map values_of) (sym (dropped_elsewhere n table row rows apart))
]

pub takes : (table : TableName) (row : Row) (key : Values) (old new : State)
    → key ≡ key_of (form_of table) (values_of row) → tables.Changes old new (tables.dropped table key)
    → Changes old new (dropped table row)
takes table row key old new is h =
    changes_of old new (tables.dropped table (key_of (form_of table) (values_of row))) (dropped table row)
    (dropped_is table row) (subst (λ k. tables.Changes old new (tables.dropped table k)) is h)

-- ---- all rows go

cleared_is : (table : TableName) (rows : RowsValue) (n : TableName)
    → tables.cleared table (contents_of rows) n ≡ contents_of (cleared table rows) n
cleared_is table rows n = elim (same_or_other n table) [
  | inl same ↦ subst (λ m. tables.cleared table (contents_of rows) m ≡ contents_of (cleared table rows) m) (sym same)
      (effects.cleared_here table (contents_of rows) ∙ ap (map values_of) (sym (cleared_here table rows)))
  | inr apart ↦ effects.cleared_elsewhere n table (contents_of rows) apart
      ∙ ap (map values_of) (sym (cleared_elsewhere n table rows apart))
]

pub clears : (table : TableName) (old new : State) → tables.Changes old new (tables.cleared table)
    → Changes old new (cleared table)
clears table old new h = changes_of old new (tables.cleared table) (cleared table) (cleared_is table) h

-- ---- what a row lends

-- what was lent of the cells of a row tells it
pub lent_tells : (table : TableName) (row items : Row) (lent cells : List ValueRef) → IsRowOf (form_of table) row
    → items ≡ row → bound lent ≡ values_of items → cells ≡ lent → TellsRow table row (bound cells)
lent_tells table row items lent cells fits is told same =
    record { fits = fits; are = ap bound same ∙ told ∙ ap values_of is }

-- ---- the key of a row

first_columns : (values : Values) (n : ℕ) → n ≤ length values → take n values ≡ map (column values) (range_with_len 0 n)
first_columns values n within =
    fill_by_all (column values) (take n values) n Null (length-take-le n values within)
    (λ k low. get_or-take n values k Null low)

-- a row has as many cells as its table has columns, so the key is among them
pub wide_enough : (table : TableName) (row : Row) (cells : List ValueRef) → TellsRow table row (bound cells)
    → (form_of table).key ≤ length cells
wide_enough table row cells tells =
    let wide : length cells ≡ length (form_of table).columns =
    sym (length-map cells (λ v. bound_value (owned v))) ∙ ap length tells.are ∙ length-map row value_of
    ∙ is_wide (form_of table) row tells.fits in
    subst (λ n. (form_of table).key ≤ n) (sym wide) (key_within table)

-- the first cells are the key
pub key_cells_are : (table : TableName) (row : Row) (cells : List ValueRef) → TellsRow table row (bound cells)
    → bound (take (form_of table).key cells) ≡ key_of (form_of table) (values_of row)
key_cells_are table row cells tells =
    let key = (form_of table).key in
    let within : key ≤ length (bound cells) = subst (λ n. key ≤ n)
    (sym (length-map cells (λ v. bound_value (owned v)))) (wide_enough table row cells tells) in
    sym (take-map (λ v. bound_value (owned v)) key cells) ∙ first_columns (bound cells) key within
    ∙ ap (key_of (form_of table)) tells.are
