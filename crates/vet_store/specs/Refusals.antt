-- The refusal for an error of the database (ours).
use Rattle.sqlite.specs.declared.error.Error.{Error}
use Rattle.sqlite.specs.declared.error.Error.TheVariants.{SqliteFailure}
use Rattle.sqlite.specs.declared.error.ErrorCode.TheVariants.{OutOfMemory}
use Rattle.vet_base.specs.declared.refusal.Refusal.{Refusal}
use Rattle.vet_base.specs.declared.refusal.Refusal.TheVariants.{NoMemory, StoreRefused}

abbrev pub refusal_of : Error → Refusal
refusal_of (SqliteFailure OutOfMemory) = NoMemory
refusal_of _ = StoreRefused
