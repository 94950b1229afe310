-- What an INSERT adds to the tables of policies and projects.
use Rattle.std.proofs.Common.{ℕ, refl}
use Rattle.sqlite_trees.specs.Tree.{Trees}
use Rattle.vet_tables.proofs.StoredRows.{News, cast_int, cast_null, made, sorts_of}
use Rattle.vet_tables.specs.declared.table_name.DemandTable.{DemandTable}
use Rattle.vet_tables.specs.declared.table_name.DemandTable.TheVariants.{Policies, Nodes, Edges}
use Rattle.vet_tables.specs.declared.table_name.TableName.TheVariants.{Demand}

pub demand_news : (t : DemandTable) (all : sorts_of (Demand t)) (db : Trees) (tree : ℕ)
    → News (Demand t) db tree (made (Demand t) all)
demand_news Policies all db tree = simp (cast_null, cast_int) refl
demand_news Nodes all db tree = simp (cast_null, cast_int) refl
demand_news Edges all db tree = simp (cast_null, cast_int) refl
