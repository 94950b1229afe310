-- What the files of this machine give (ours).
use Rattle.sqlite.specs.Files.{IsOpened, file_state}
use Rattle.sqlite.specs.Held.{Held, IsNew}
use Rattle.sqlite.specs.State.{HasCleanDisk}
use Rattle.sqlite_disk.specs.declared.Disk.{Ghosts}
use Rattle.sqlite_store.specs.declared.store.FileStore.{FileStore}
use Rattle.std_io.specs.declared.io.kind.ErrorKind.{ErrorKind}
use Rattle.std_io.specs.declared.io.kind.ErrorKind.TheVariants.{NotADirectory, NotFound, OutOfMemory}
use Rattle.vet_base.specs.declared.refusal.Refusal.{Refusal}
use Rattle.vet_base.specs.declared.refusal.Refusal.TheVariants.{NoMemory, NotARegister, StoreRefused}

-- a connection is new, and open while its disk returns what was written
pub record IsOpenedNew {D : Type 0} {g : Ghosts D} (conn : Held (FileStore D g)) : Type 0 where
  pub new : IsNew conn
  pub opened : HasCleanDisk (file_state conn) → IsOpened conn

-- the refusal of a path whose file can't be examined, by the kind of the error
abbrev pub refusal_of_path : ErrorKind → Refusal
refusal_of_path NotFound = NotARegister
refusal_of_path NotADirectory = NotARegister
refusal_of_path OutOfMemory = NoMemory
refusal_of_path _ = StoreRefused
