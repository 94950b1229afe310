use Rattle.std.proofs.Common.{refl}
use Rattle.sqlite.proofs.Callers.{memory_is_clean}
use Rattle.vet_store.proofs.memory.tables_in_memory.Goals as goal

pub returns : goal.returns
returns g c = c.tables_are_of_register.ensures.stands (memory_is_clean c.args.store.now.conn) refl
