-- What exchanges, no two of which are of one table, make of all tables.
use Rattle.std.proofs.Common.{◌≡◌, inl, inr, Bool, true, false, cond, ℕ, List, [], ◌∷◌, ◌++◌, map, refl, sym, ap}
use Rattle.std.proofs.Common.{◌+◌, ◌<◌, arith, subst, ◌∙◌}
use Rattle.std.specs.List.{flat_map}
use Rattle.vet_base.specs.Items.{SameItems}
use Rattle.vet_rows.specs.RowChanges.{all_changed, changed}
use Rattle.vet_rows.specs.RowExchanges.{differing, drops_then_puts, exchange_of, is_compared, less, row_changes_of}
use Rattle.vet_rows.specs.declared.row_change.RowChange.{RowChange}
use Rattle.vet_rows.specs.declared.row_change.RowChange.TheVariants.{Put, Drop}
use Rattle.vet_rows.specs.declared.row_changes.exchange.Exchange.{Exchange}
use Rattle.vet_rows.proofs.ExchangeParts.{LeadsByDifference, Rise, of_table}
use Rattle.vet_rows.proofs.Exchanges.{all_without, exchanged, with_all}
use Rattle.vet_tables.proofs.Effects.{apart_is, here_is}
use Rattle.vet_tables.proofs.TablePlaces.{same_or_other}
use Rattle.vet_tables.proofs.TableRows.{dropped_elsewhere, dropped_here, put_elsewhere, put_here}
use Rattle.vet_tables.specs.Cells.{Row, RowsValue, SameRows, dropped, put, same_key}
use Rattle.vet_tables.specs.Forms.{code, form_of}
use Rattle.vet_tables.specs.declared.table_name.TableName.{TableName}

-- rows of a table of the same key
abbrev same_in : TableName → Row → Row → Bool
same_in table = same_key (form_of table)

-- changes in two runs
pub changed-append : (first more : List RowChange) (rows : RowsValue) → all_changed (first ++ more) rows
    ≡ all_changed more (all_changed first rows)
changed-append [] more rows = refl
changed-append (c ∷ first) more rows = changed-append first more (changed c rows)

-- ---- of one table

module _ (table : TableName) where
  drops_here : (going : List Row) (rows : RowsValue)
      → all_changed (map (λ r. Drop table r) going) rows table ≡ all_without (same_in table) going (rows table)
  drops_here [] rows = refl
  drops_here (r ∷ more) rows =
      drops_here more (dropped table r rows)
      ∙ ap (all_without (same_in table) more) (dropped_here table r rows)

  puts_here : (coming : List Row) (rows : RowsValue)
      → all_changed (map (λ r. Put table r) coming) rows table ≡ with_all (same_in table) coming (rows table)
  puts_here [] rows = refl
  puts_here (r ∷ more) rows =
      puts_here more (put table r rows) ∙ ap (with_all (same_in table) more) (put_here table r rows)

  module _ (other : TableName) (apart : code other ≡ code table → ⊥) where
    drops_elsewhere : (going : List Row) (rows : RowsValue)
        → all_changed (map (λ r. Drop table r) going) rows other ≡ rows other
    drops_elsewhere [] rows = refl
    drops_elsewhere (r ∷ more) rows =
        drops_elsewhere more (dropped table r rows) ∙ dropped_elsewhere other table r rows apart

    puts_elsewhere : (coming : List Row) (rows : RowsValue)
        → all_changed (map (λ r. Put table r) coming) rows other ≡ rows other
    puts_elsewhere [] rows = refl
    puts_elsewhere (r ∷ more) rows =
        puts_elsewhere more (put table r rows) ∙ put_elsewhere other table r rows apart

    exchanged_elsewhere : (going coming : List Row) (rows : RowsValue)
        → all_changed (drops_then_puts table going coming) rows other ≡ rows other
    exchanged_elsewhere going coming rows =
        ap (λ (t : RowsValue). t other)
        (changed-append (map (λ r. Drop table r) going) (map (λ r. Put table r) coming) rows)
        ∙ puts_elsewhere coming (all_changed (map (λ r. Drop table r) going) rows) ∙ drops_elsewhere going rows

  exchanged_here : (going coming : List Row) (rows : RowsValue)
      → all_changed (drops_then_puts table going coming) rows table
      ≡ with_all (same_in table) coming (all_without (same_in table) going (rows table))
  exchanged_here going coming rows =
      ap (λ (t : RowsValue). t table)
      (changed-append (map (λ r. Drop table r) going) (map (λ r. Put table r) coming) rows)
      ∙ puts_here coming (all_changed (map (λ r. Drop table r) going) rows)
      ∙ ap (with_all (same_in table) coming) (drops_here going rows)

-- ---- of all tables

-- the rows of a table after some are dropped and others put, those of an exchange that differ
abbrev after : TableName → Exchange → List Row → List Row
after table e rows =
    with_all (same_in table) (differing table e.added e.removed)
    (all_without (same_in table) (differing table e.removed e.added) rows)

-- an exchange of no rows changes none
no_rows : (table : TableName) (rows : List Row) → after table (exchange_of table [] []) rows ≡ rows
no_rows table rows = by (is_compared table)
  where
    by : (b : Bool) → with_all (same_in table) (cond b (less [] []) [])
        (all_without (same_in table) (cond b (less [] []) []) rows) ≡ rows
    by true = refl
    by false = refl

-- the changes of one exchange and of more
one_then_more : (e : Exchange) (more : List Exchange) (table : TableName) (rows : RowsValue)
    → all_changed (flat_map row_changes_of (e ∷ more)) rows table
    ≡ all_changed (flat_map row_changes_of more) (all_changed (row_changes_of e) rows) table
one_then_more e more table rows =
    ap (λ (t : RowsValue). t table) (changed-append (row_changes_of e) (flat_map row_changes_of more) rows)

-- what one exchange makes of its table, and of another
here_one : (e : Exchange) (rows : RowsValue)
    → all_changed (row_changes_of e) rows e.table ≡ after e.table e (rows e.table)
here_one e rows =
    exchanged_here e.table (differing e.table e.removed e.added) (differing e.table e.added e.removed) rows

elsewhere_one : (e : Exchange) (table : TableName) → (code table ≡ code e.table → ⊥) → (rows : RowsValue)
    → all_changed (row_changes_of e) rows table ≡ rows table
elsewhere_one e table apart rows =
    exchanged_elsewhere e.table table apart (differing e.table e.removed e.added)
    (differing e.table e.added e.removed) rows

-- a table before those of the exchanges stays
others_stay : (exchanges : List Exchange) (low high : ℕ) → Rise low high exchanges → (table : TableName)
    → code table < low → (rows : RowsValue) → all_changed (flat_map row_changes_of exchanges) rows table ≡ rows table
others_stay [] low high up table below rows = refl
others_stay (e ∷ more) low high up table below rows =
    let first = up.0 in
    one_then_more e more table rows
    ∙ others_stay more (code e.table + 1) high up.1 table (omega (arith, first, below))
    (all_changed (row_changes_of e) rows)
    ∙ elsewhere_one e table (λ same. omega (arith, first, below, same)) rows

-- the table of the first exchange
here : (e : Exchange) (more : List Exchange) (high : ℕ) → Rise (code e.table + 1) high more → (rows : RowsValue)
    → all_changed (flat_map row_changes_of (e ∷ more)) rows e.table
    ≡ after e.table (of_table (e ∷ more) e.table) (rows e.table)
here e more high up rows =
    one_then_more e more e.table rows
    ∙ others_stay more (code e.table + 1) high up e.table (omega arith) (all_changed (row_changes_of e) rows)
    ∙ here_one e rows
    ∙ ap (λ b. after e.table (cond b e (of_table more e.table)) (rows e.table)) (sym (here_is e.table))

-- a table that is another
elsewhere : (e : Exchange) (more : List Exchange) (table : TableName) → (code table ≡ code e.table → ⊥)
    → (rows : RowsValue)
    → all_changed (flat_map row_changes_of more) (all_changed (row_changes_of e) rows) table
    ≡ after table (of_table more table) (all_changed (row_changes_of e) rows table)
    → all_changed (flat_map row_changes_of (e ∷ more)) rows table
    ≡ after table (of_table (e ∷ more) table) (rows table)
elsewhere e more table apart rows rest =
    one_then_more e more table rows ∙ rest
    ∙ ap (after table (of_table more table)) (elsewhere_one e table apart rows)
    ∙ ap (λ b. after table (cond b e (of_table more table)) (rows table))
    (sym (apart_is e.table table (λ same. apart (sym same))))

-- so each table is changed by its own exchange alone
each_of : (exchanges : List Exchange) (low high : ℕ) → Rise low high exchanges → (table : TableName)
    → (rows : RowsValue)
    → all_changed (flat_map row_changes_of exchanges) rows table ≡ after table (of_table exchanges table) (rows table)
each_of [] low high up table rows = sym (no_rows table (rows table))
each_of (e ∷ more) low high up table rows = elim (same_or_other table e.table) [
  | inl same ↦ subst
      (λ n. all_changed (flat_map row_changes_of (e ∷ more)) rows n ≡ after n (of_table (e ∷ more) n) (rows n))
      (sym same) (here e more high up.1 rows)
  | inr apart ↦ elsewhere e more table apart rows
      (each_of more (code e.table + 1) high up.1 table (all_changed (row_changes_of e) rows))
]

-- and they lead to the rows to which each exchange leads in its table
pub exchanges_lead : (exchanges : List Exchange) (low high : ℕ) → Rise low high exchanges → (old new : RowsValue)
    → ((table : TableName) → LeadsByDifference table (of_table exchanges table) (old table) (new table))
    → SameRows (all_changed (flat_map row_changes_of exchanges) old) new
exchanges_lead exchanges low high up old new h table =
    let e = of_table exchanges table in
    subst (λ rows. SameItems rows (new table)) (sym (each_of exchanges low high up table old))
    (exchanged (same_in table) (differing table e.removed e.added) (differing table e.added e.removed) (old table)
    (new table) (h table))
