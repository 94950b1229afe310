-- The register that is opened in a database, and the database afterwards (ours).
use Rattle.std.specs.Prelude.{◌≡◌, ◌⊎◌, false, IsTrue}
use Rattle.sqlite.specs.Held.{Held, state}
use Rattle.sqlite.specs.State.{HasCleanDisk, Survives}
use Rattle.sqlite_trees.specs.declared.store.Store.{Ghosts}
use Rattle.vet_base.specs.declared.refusal.Refusal.{Refusal}
use Rattle.vet_base.specs.declared.refusal.Refusal.TheVariants.{NotARegister}
use Rattle.vet_register.specs.State.{State}
use Rattle.vet_rows.specs.RowsOf.{rows_of}
use Rattle.vet_store.specs.Opened.{IsStored}
use Rattle.vet_store.specs.Runs.{IsOfStore}
use Rattle.vet_store.specs.TakenOver.{IsOpened, IsTakenOver}
use Rattle.vet_store.specs.Tied.{IsTied}
use Rattle.vet_tables.specs.Read.{Rests}
use Rattle.vet_tables.specs.Versions.{HasSomeVersion}

module _ {S : Type 0} (g : Ghosts S) (before : Held S) where
  -- This is the one register whose rows were in the tables, and they are now in tables of the second version. Either
  -- everything is as it was, or tables of the first version were taken over and everything else is as it was. A crash
  -- leaves what it could leave before, or the tables that were taken over.
  pub record IsOpenedAs (register : State) (after : Held S) : Type 0 where
    pub stored : HasCleanDisk (state g after) → IsStored (state g before).now register
    pub only : HasCleanDisk (state g after) → (t : State) → IsStored (state g before).now t → register ≡ t
    pub tables : IsTied (state g after) false (rows_of register)
    pub opened : HasCleanDisk (state g after) → IsOpened (state g before) (state g after) register
    pub crash : Survives (state g before) (state g after) (IsTakenOver (state g before))

  -- Everything is as it was as long as the connection serves. A crash leaves what it could leave before, or tables of
  -- the first version that were taken over.
  pub record Stays (after : Held S) : Type 0 where
    pub as_before : HasCleanDisk (state g after) → IsTrue (state g after).is_open
        → Rests (state g after) × ((state g after).now ≡ (state g before).now)
    pub crash : Survives (state g before) (state g after) (IsTakenOver (state g before))

  -- No register was opened: the tables have the rows of no register, memory ran out, or the database refused. If the
  -- tables are those of no version, there is no register, and nothing was done.
  pub record IsNotOpened (refusal : Refusal) (after : Held S) : Type 0 where
    pub foreign : (HasSomeVersion (state g before).now.schema → ⊥) → (refusal ≡ NotARegister) × (after ≡ before)
    pub why : IsOfStore refusal ⊎ (refusal ≡ NotARegister)
    pub none : refusal ≡ NotARegister → HasCleanDisk (state g after)
        → (t : State) → IsStored (state g before).now t → ⊥
    pub stays : Stays after
