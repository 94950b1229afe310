-- What the next open finds after a crash (ours). SQLite's model says which trees a crash leaves; these are laws about
-- databases with such trees.
use Rattle.std.specs.Prelude.{◌≡◌, ◌⊎◌, ◌<◌, ◌≤◌, ℕ, IsTrue, false}
use Rattle.sqlite.specs.Effect.{Database, IsDatabase}
use Rattle.sqlite.specs.Held.{Held, state}
use Rattle.sqlite.specs.State.{HasCleanDisk, State as Connected, Survives}
use Rattle.sqlite_trees.specs.Tree.{Trees}
use Rattle.sqlite_trees.specs.declared.store.Store.{Ghosts}
use Rattle.vet_base.specs.declared.limits.TheConstants.{MOST_MOVES}
use Rattle.vet_register.specs.Runs.{after}
use Rattle.vet_register.specs.Sound.{IsSound}
use Rattle.vet_register.specs.State.{State, start}
use Rattle.vet_register.specs.declared.command.Command.{Command}
use Rattle.vet_rows.specs.HeldState.{IsHeldState}
use Rattle.vet_rows.specs.RowsOf.{rows_of}
use Rattle.vet_store.specs.Crash.{LeavesEither}
use Rattle.vet_store.specs.Made.{IsMade}
use Rattle.vet_store.specs.Opened.{IsStored}
use Rattle.vet_store.specs.TakenOver.{IsTakenOver, TakesOver}
use Rattle.vet_store.specs.Tied.{IsTied}
use Rattle.vet_tables.specs.Cells.{SameRows}
use Rattle.vet_tables.specs.Extends.{SparesOthers}
use Rattle.vet_tables.specs.Free.{AreFree}
use Rattle.vet_tables.specs.Read.{Rests}

-- a crash leaves what the connection shows
abbrev pub LeavesShown : Connected → Type 0
LeavesShown c = (trees : Trees) → c.may_leave trees → trees ≡ c.now.trees

-- a database that a crash leaves
pub record IsLeft (c : Connected) (db : Database) : Type 0 where
  pub sound : IsDatabase db
  pub left : c.may_leave db.trees

-- no state is stored, the names of a register's tables are free, and the database is the one before
pub record HasNone (before db : Database) : Type 0 where
  pub none : (s : State) → IsStored db s → ⊥
  pub free : AreFree db.schema
  pub same : db ≡ before

-- this state is stored, and each table, index and view of the database before is there, each table with its rows
pub record HasFirst (before db : Database) (s : State) : Type 0 where
  pub stored : IsStored db s
  pub others : SparesOthers before db

-- this state is stored, and none with other rows
pub record HasOnly (db : Database) (s : State) : Type 0 where
  pub stored : IsStored db s
  pub only : (t : State) → IsStored db t → SameRows (rows_of s) (rows_of t)

-- tables of the first version were taken over: this state is stored, as it was before, and none with other rows
pub record HasTakenOver (before db : Database) : Type 0 where
  pub state : State
  pub was : IsStored before state
  pub has : HasOnly db state
  pub over : TakesOver before db state

-- a state that a register can have
pub record IsState (s : State) : Type 0 where
  pub sound : IsSound s
  pub held : IsHeldState s

module _ {S : Type 0} (g : Ghosts S) where
  -- after `create`, if all names were free: no state, and `create` may be called again; or the first state. Everything
  -- else is as it was
  abbrev pub CreateLeaves : Type 0
  CreateLeaves =
      (old new : Held S) (limit : ℕ) (db : Database) → (0 < limit) × (limit ≤ MOST_MOVES)
      → IsDatabase (state g old).now → Rests (state g old) → AreFree (state g old).now.schema
      → LeavesShown (state g old)
      → Survives (state g old) (state g new) (IsMade (state g old) (rows_of (start limit)))
      → HasCleanDisk (state g new) → IsLeft (state g new) db
      → HasNone (state g old).now db ⊎ HasFirst (state g old).now db (start limit)

  -- after `open`: the same database as before, and so the same states; or the tables of the first version were taken
  -- over, and the state is the same
  abbrev pub OpenLeaves : Type 0
  OpenLeaves =
      (old new : Held S) (db : Database) → IsDatabase (state g old).now → LeavesShown (state g old)
      → Survives (state g old) (state g new) (IsTakenOver (state g old)) → HasCleanDisk (state g new)
      → IsLeft (state g new) db
      → (db ≡ (state g old).now) ⊎ HasTakenOver (state g old).now db

  -- after `run`: the state before the command, or the state after it
  abbrev pub RunLeaves : Type 0
  RunLeaves =
      (new : Held S) (s : State) (command : Command) (db : Database) → IsState s → IsState (after s command)
      → LeavesEither (state g new) s command → IsLeft (state g new) db
      → IsStored db s ⊎ IsStored db (after s command)

  -- after anything that leaves a store that is not shut: the state of its register. As long as the connection serves,
  -- it is the database that this shows
  abbrev pub TiedLeaves : Type 0
  TiedLeaves =
      (c : Held S) (s : State) (db : Database) → IsState s → IsTied (state g c) false (rows_of s)
      → HasCleanDisk (state g c) → IsLeft (state g c) db
      → HasOnly db s × (IsTrue (state g c).is_open → db ≡ (state g c).now)
