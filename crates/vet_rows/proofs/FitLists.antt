-- Lists of rows that have the columns of a table, and exchanges of such lists.
use Rattle.std.proofs.Common.{inl, inr, List, [], ◌∷◌, ◌++◌, Option, map, subst, sym}
use Rattle.std.specs.List.{AllByRecursion, flat_map}
use Rattle.vet_base.proofs.ItemLemmas.{in_append, in_map}
use Rattle.vet_base.specs.Items.{IsIn}
use Rattle.vet_base.specs.declared.keyed.KeyedEdit.{KeyedEdit}
use Rattle.vet_rows.proofs.ExchangeParts.{Makes}
use Rattle.vet_rows.proofs.Exchanges.{rows_if_in}
use Rattle.vet_rows.proofs.ListEdits.{in_flat}
use Rattle.vet_rows.specs.FitChanges.{Fits}
use Rattle.vet_rows.specs.KeyedItems.{added_item, removed_item, rows_if}
use Rattle.vet_rows.specs.RowExchanges.{item_exchange}
use Rattle.vet_rows.specs.declared.row_changes.exchange.Exchange.{Exchange}
use Rattle.vet_tables.specs.Cells.{IsRowOf, Row}
use Rattle.vet_tables.specs.Forms.{form_of}
use Rattle.vet_tables.specs.declared.table_name.TableName.{TableName}

-- each row of a list is one of a table
abbrev pub AreRows : TableName → List Row → Type 0
AreRows table rows = (r : Row) → IsIn r rows → IsRowOf (form_of table) r

module _ (table : TableName) where
  pub mapped_fit : {E : Type 0} (row_of : E → Row) → ((e : E) → IsRowOf (form_of table) (row_of e)) → (items : List E)
      → AreRows table (map row_of items)
  mapped_fit row_of each items r i =
      let e = in_map row_of items r i in subst (IsRowOf (form_of table)) (sym e.1.1) (each e.0)

  pub flat_fit : {E : Type 0} (rows_of : E → List Row) → ((e : E) → AreRows table (rows_of e)) → (items : List E)
      → AreRows table (flat_map rows_of items)
  flat_fit rows_of each items r i = let e = in_flat rows_of items r i in each e.0 r e.1.1

  pub both_fit : (xs ys : List Row) → AreRows table xs → AreRows table ys → AreRows table (xs ++ ys)
  both_fit xs ys first rest r i = elim (in_append xs ys r i) [ inl a ↦ first r a | inr b ↦ rest r b ]

  pub if_fit : {E : Type 0} (rows_of : E → List Row) → ((e : E) → AreRows table (rows_of e)) → (o : Option E)
      → AreRows table (rows_if rows_of o)
  if_fit rows_of each o r i = let e = rows_if_in rows_of o r i in each e.0 r e.1.1

  pub one_fit : (row : Row) → IsRowOf (form_of table) row → AreRows table (row ∷ [])
  one_fit row fits r (inl e) = subst (IsRowOf (form_of table)) (sym e) fits
  one_fit row fits r (inr none) = absurd none

  pub none_fit : AreRows table []
  none_fit r none = absurd none

-- ---- exchanges

-- each of some exchanges has rows of its table
abbrev pub AllFit : List Exchange → Type 0
AllFit = AllByRecursion (Makes Fits)

-- so has that of an item for another
pub item_fits : {E : Type 0} (name : TableName) (rows_of : E → List Row) → ((x : E) → AreRows name (rows_of x))
    → (change : KeyedEdit E) (items : List E) → Makes Fits (item_exchange name rows_of change items)
item_fits name rows_of each change items = (
  if_fit name rows_of each (removed_item change items),
  if_fit name rows_of each (added_item change),
)
