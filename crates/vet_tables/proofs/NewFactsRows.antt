-- What an INSERT adds to the tables of the facts of packages.
use Rattle.std.proofs.Common.{ℕ, refl}
use Rattle.sqlite_trees.specs.Tree.{Trees}
use Rattle.vet_tables.proofs.StoredRows.{News, cast_int, cast_null, made, sorts_of}
use Rattle.vet_tables.specs.declared.table_name.FactsTable.{FactsTable}
use Rattle.vet_tables.specs.declared.table_name.FactsTable.TheVariants.{Criteria, Entries, Publishers, Peers}
use Rattle.vet_tables.specs.declared.table_name.TableName.TheVariants.{Facts}

pub facts_news : (t : FactsTable) (all : sorts_of (Facts t)) (db : Trees) (tree : ℕ)
    → News (Facts t) db tree (made (Facts t) all)
facts_news Criteria all db tree = simp cast_null refl
facts_news Entries all db tree = simp (cast_null, cast_int) refl
facts_news Publishers all db tree = simp (cast_null, cast_int) refl
facts_news Peers all db tree = simp cast_null refl
