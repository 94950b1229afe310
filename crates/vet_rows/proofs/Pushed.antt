-- Changes that are pushed one run after another.
use Rattle.std.proofs.Common.{◌≡◌, ◌++◌, true, false, cond, List, Ok, Err, Result, OnOk, ap, sym, ◌∙◌}
use Rattle.vet_rows.specs.RowExchanges.{drops_then_puts, exchange_of, is_compared, less, row_changes_of}
use Rattle.vet_tables.specs.Cells.{Row}
use Rattle.vet_tables.specs.declared.table_name.TableName.{TableName}

-- ---- of one table

module _ (table : TableName) (removed added : List Row) where
  pub as_compared : is_compared table ≡ true
      → drops_then_puts table (less removed added) (less added removed)
      ≡ row_changes_of (exchange_of table removed added)
  as_compared is =
      ap (λ b. drops_then_puts table (cond b (less removed added) removed) (cond b (less added removed) added)) (sym is)

  pub as_whole : is_compared table ≡ false
      → drops_then_puts table removed added ≡ row_changes_of (exchange_of table removed added)
  as_whole is =
      ap (λ b. drops_then_puts table (cond b (less removed added) removed) (cond b (less added removed) added)) (sym is)

-- ---- of one run more

pub pushed : {X : Type 0} {all before more xs ys : List X} → before ≡ xs → more ≡ ys → all ≡ before ++ more
    → all ≡ xs ++ ys
pushed before_is more_is all_is = all_is ∙ (λ i. before_is i ++ more_is i)

-- what follows from what a call ensures where it goes well
pub where_ok : {T E : Type 0} {P Q : Type 0} (r : Result T E) → (P → Q) → OnOk r P → OnOk r Q
where_ok (Ok t) f h = f h
where_ok (Err e) f h = tt
