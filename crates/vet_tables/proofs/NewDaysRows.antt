-- What an INSERT adds to the tables of the register's day and of last days.
use Rattle.std.proofs.Common.{ℕ, refl}
use Rattle.sqlite_trees.specs.Tree.{Trees}
use Rattle.vet_tables.proofs.StoredRows.{News, cast_int, cast_null, made, sorts_of}
use Rattle.vet_tables.specs.declared.table_name.DaysTable.{DaysTable}
use Rattle.vet_tables.specs.declared.table_name.DaysTable.TheVariants.{Today, Lasts}
use Rattle.vet_tables.specs.declared.table_name.TableName.TheVariants.{Days}

pub days_news : (t : DaysTable) (all : sorts_of (Days t)) (db : Trees) (tree : ℕ)
    → News (Days t) db tree (made (Days t) all)
days_news Today all db tree = simp (cast_null, cast_int) refl
days_news Lasts all db tree = simp (cast_null, cast_int) refl
