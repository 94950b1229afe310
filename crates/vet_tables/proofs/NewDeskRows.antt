-- What an INSERT adds to the tables of the review desk.
use Rattle.std.proofs.Common.{ℕ, refl}
use Rattle.sqlite_trees.specs.Tree.{Trees}
use Rattle.vet_tables.proofs.StoredRows.{News, cast_int, cast_null, made, sorts_of}
use Rattle.vet_tables.specs.declared.table_name.DeskTable.{DeskTable}
use Rattle.vet_tables.specs.declared.table_name.DeskTable.TheVariants.{Members, Reviews}
use Rattle.vet_tables.specs.declared.table_name.TableName.TheVariants.{Desk}

pub desk_news : (t : DeskTable) (all : sorts_of (Desk t)) (db : Trees) (tree : ℕ)
    → News (Desk t) db tree (made (Desk t) all)
desk_news Members all db tree = simp cast_null refl
desk_news Reviews all db tree = simp (cast_null, cast_int) refl
