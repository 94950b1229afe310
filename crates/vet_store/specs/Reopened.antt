-- A store that was closed and opened again, and what remains of it if it could not be opened (ours).
use Rattle.std.specs.Prelude.{◌≡◌, ◌⊎◌, false, IsTrue, ⊤}
use Rattle.sqlite.specs.Closing.{IsCopied}
use Rattle.sqlite.specs.Files.{IsCleanLeft, IsClosed, LeavesFiles, file_state}
use Rattle.sqlite.specs.Held.{Held}
use Rattle.sqlite.specs.State.{HasCleanDisk}
use Rattle.sqlite.specs.State as sqlite
use Rattle.sqlite.specs.declared.file.Leftover.{Leftover}
use Rattle.sqlite_disk.specs.declared.Disk.{Ghosts}
use Rattle.sqlite_disk.specs.declared.Files.{Files}
use Rattle.sqlite_store.specs.FileStore.{files as files_in}
use Rattle.sqlite_store.specs.declared.store.FileStore.{FileStore}
use Rattle.sqlite_trees.specs.Tree.{Trees}
use Rattle.vet_base.specs.declared.refusal.Refusal.{Refusal}
use Rattle.vet_base.specs.declared.refusal.Refusal.TheVariants.{NotARegister}
use Rattle.vet_register.specs.Sound.{IsSound}
use Rattle.vet_register.specs.State.{State}
use Rattle.vet_rows.specs.HeldState.{IsHeldState}
use Rattle.vet_rows.specs.RowsOf.{rows_of}
use Rattle.vet_store.specs.Made.{IsAsBefore}
use Rattle.vet_store.specs.Runs.{IsOfStore}
use Rattle.vet_store.specs.Tied.{IsTied}
use Rattle.vet_store.specs.declared.store.reopen_files.Remains.{Remains}
use Rattle.vet_store.specs.declared.store.reopen_files.Remains.TheVariants as remains

-- ---- a new connection, in place of the old one of a store

-- it shows what the old one showed, which served on a clean disk
pub record ShowsAgain (old new : sqlite.State) : Type 0 where
  pub was_clean : HasCleanDisk old
  pub was_open : IsTrue old.is_open
  pub as_before : IsAsBefore old new

-- a crash leaves what the old one showed
abbrev pub LeavesAgain : sqlite.State → sqlite.State → Type 0
LeavesAgain old new = HasCleanDisk new → (trees : Trees) → new.may_leave trees → trees ≡ old.now.trees

-- its tables have the rows of the state that was closed, also after a crash
pub record LosesNothing (new : sqlite.State) (s : State) : Type 0 where
  pub sound : IsSound s
  pub held : IsHeldState s
  pub tied : IsTied new false (rows_of s)

-- ---- what remains of a store whose files were not opened again

-- The refusal is 29 or 30. If the register could not be read, it may also be 31, but not as long as the connection
-- serves on a clean disk
abbrev pub RefusesAgain : {D : Type 0} {g : Ghosts D} → Remains D g → Refusal → Type 0
RefusesAgain (remains.Store store) e = IsOfStore e
RefusesAgain (remains.Files left) e = IsOfStore e
RefusesAgain (remains.Conn conn) e =
    (IsOfStore e ⊎ (e ≡ NotARegister))
    × (HasCleanDisk (file_state conn) → IsTrue (file_state conn).is_open → IsOfStore e)

-- this holds of the connection, if one remains
abbrev pub OfConn : {D : Type 0} {g : Ghosts D} → Remains D g → (Held (FileStore D g) → Type 0) → Type 0
OfConn (remains.Store store) Holds = ⊤
OfConn (remains.Files left) Holds = ⊤
OfConn (remains.Conn conn) Holds = Holds conn

-- a close put the last commit into the files, as they are read and after a crash, and an open that failed left of them
-- what `sqlite` says
pub record KeepsFiles {D : Type 0} {g : Ghosts D} (old : Held (FileStore D g)) (left : Leftover D g) : Type 0 where
  pub last : FileStore D g
  pub closed : IsClosed old last
  pub files : Files D
  pub of_last : files_in last ≡ (files.log, files.db)
  pub copied : IsTrue (g.is_clean files.log) → IsTrue (g.is_clean files.db) → IsCopied old files
  pub kept : IsCleanLeft left → LeavesFiles files left

-- A crash leaves of a store that could not be closed only what it could leave before. Files that were closed have the
-- last commit, and a connection has the state
abbrev pub NothingIsLost : {D : Type 0} {g : Ghosts D} → Held (FileStore D g) → State → Remains D g → Type 0
NothingIsLost old s (remains.Store store) = IsClosed old store
NothingIsLost old s (remains.Files left) = KeepsFiles old left
NothingIsLost old s (remains.Conn conn) = LosesNothing (file_state conn) s
