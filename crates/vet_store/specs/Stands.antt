-- What the tables of a database hold (ours).
use Rattle.std.specs.Prelude.{ℕ}
use Rattle.sqlite.specs.Effect.{Database}
use Rattle.sqlite.specs.State.{State}
use Rattle.vet_tables.specs.Cells.{RowsValue, contents_of}
use Rattle.vet_tables.specs.Contents.{HasContents, HasFirstContents}
use Rattle.vet_tables.specs.Read.{Rests}
use Rattle.vet_tables.specs.Versions.{table_count}
use Rattle.vet_tables.specs.declared.version.TablesVersion.{TablesVersion}

-- the database is sound and has all tables, each with these rows as a set, whatever else it has
abbrev pub Holds : Database → RowsValue → Type 0
Holds db rows = HasContents db (contents_of rows)

-- the same for the first tables, up to a count, if the names of the others are free
abbrev pub HoldsFirst : ℕ → Database → RowsValue → Type 0
HoldsFirst count db rows = HasFirstContents count db (contents_of rows)

-- the same for the tables of a version
abbrev pub HoldsIn : TablesVersion → Database → RowsValue → Type 0
HoldsIn version db rows = HoldsFirst (table_count version) db rows

-- between transactions, the tables have these rows
pub record Stands (s : State) (rows : RowsValue) : Type 0 where
  pub rests : Rests s
  pub holds : Holds s.now rows
