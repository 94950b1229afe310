-- What an INSERT adds to a table.
use Rattle.std.proofs.Common.{ℕ, refl, subst, sym}
use Rattle.sqlite_trees.specs.Tree.{Trees}
use Rattle.sqlite_value.specs.Order.{Row as Cells}
use Rattle.vet_tables.proofs.NewDaysRows.{days_news}
use Rattle.vet_tables.proofs.NewDemandRows.{demand_news}
use Rattle.vet_tables.proofs.NewDeskRows.{desk_news}
use Rattle.vet_tables.proofs.NewFactsRows.{facts_news}
use Rattle.vet_tables.proofs.Payloads.{payloads}
use Rattle.vet_tables.proofs.StoredRows.{News, cast_int, cast_null, made, sorts_of}
use Rattle.vet_tables.specs.Forms.{form_of}
use Rattle.vet_tables.specs.Typed.{AreSorts, kinds_of}
use Rattle.vet_tables.specs.declared.table_name.TableName.{TableName}
use Rattle.vet_tables.specs.declared.table_name.TableName.TheVariants.{Meta, Facts, Demand, Standing, Moves, Desk, Days}

made_news : (n : TableName) (all : sorts_of n) (db : Trees) (tree : ℕ) → News n db tree (made n all)
made_news Meta all db tree = simp (cast_null, cast_int) refl
made_news (Facts t) all db tree = facts_news t all db tree
made_news (Demand t) all db tree = demand_news t all db tree
made_news Standing all db tree = simp (cast_null, cast_int) refl
made_news Moves all db tree = simp (cast_null, cast_int) refl
made_news (Desk t) all db tree = desk_news t all db tree
made_news (Days t) all db tree = days_news t all db tree

pub news_are : (n : TableName) (cells : Cells) → AreSorts (kinds_of (form_of n)) cells → (db : Trees) (tree : ℕ)
    → News n db tree cells
news_are n cells sorts db tree =
    let it = payloads (kinds_of (form_of n)) cells sorts in
    subst (News n db tree) (sym it.1) (made_news n it.0 db tree)
