-- The rows in the tables of the versions.
use Rattle.std.proofs.Common.{◌≤◌, arith, rules, subst}
use Rattle.sqlite.specs.Effect.{Database}
use Rattle.vet_register.specs.State.{State}
use Rattle.vet_rows.specs.RowsOf.{rows_by, rows_of}
use Rattle.vet_store.specs.Opened.{IsStored}
use Rattle.vet_store.specs.Stands.{Holds, HoldsIn}
use Rattle.vet_tables.proofs.TablePlaces.{few}
use Rattle.vet_tables.proofs.Versions.{not_free, one_version}
use Rattle.vet_tables.specs.Cells.{RowsValue}
use Rattle.vet_tables.specs.Forms.{code}
use Rattle.vet_tables.specs.Versions.{HasVersion}
use Rattle.vet_tables.specs.declared.table_name.DaysTable.TheVariants.{Today}
use Rattle.vet_tables.specs.declared.table_name.TableName.TheVariants.{Days}
use Rattle.vet_tables.specs.declared.table_name.TheConstants.{TABLE_COUNT}
use Rattle.vet_tables.specs.declared.version.TablesVersion.{TablesVersion}
use Rattle.vet_tables.specs.declared.version.TablesVersion.TheVariants.{First, Second}

-- all tables are those of the second version
pub holds_all : (db : Database) (rows : RowsValue) → HoldsIn Second db rows → Holds db rows
holds_all db rows h = record {
  sound = h.sound;
  has = λ n. h.first.has n (few n);
  shows = λ n. h.shows n (few n);
}

pub holds_second : (db : Database) (rows : RowsValue) → Holds db rows → HoldsIn Second db rows
holds_second db rows h = record {
  sound = h.sound;
  first = record {
    has = λ n low. h.has n;
    free = λ n high. (let beyond : TABLE_COUNT ≤ code n = high in absurd (omega (arith, beyond, few n)));
  };
  shows = λ n low. h.shows n;
  none = λ n high. (let beyond : TABLE_COUNT ≤ code n = high in absurd (omega (arith, beyond, few n)));
}

-- so a database that has all of them has not those of the first
pub second_or_first : (db : Database) (a b : RowsValue) → Holds db a → HoldsIn First db b → ⊥
second_or_first db a b h k = not_free db.schema _ (k.first.free (Days Today) (search rules)) (h.has (Days Today))

-- ---- a state that is stored

-- its rows are in the tables of the version that the database has
pub in_version : (version : TablesVersion) (db : Database) → HasVersion version db.schema → (t : State)
    → IsStored db t → HoldsIn version db (rows_by version t)
in_version version db has t h =
    let same = one_version db.schema h.version version h.holds.first has in
    subst (λ v. HoldsIn v db (rows_by v t)) same h.holds

-- if the tables are those of the second version, all of them have its rows
pub in_second : (db : Database) (rows : RowsValue) → Holds db rows → (t : State) → IsStored db t → Holds db (rows_of t)
in_second db rows h t is =
    let second = holds_second db rows h in
    holds_all db (rows_of t) (in_version Second db second.first t is)
