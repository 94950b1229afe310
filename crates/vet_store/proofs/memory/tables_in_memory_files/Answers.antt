use Rattle.std.proofs.Common.{refl}
use Rattle.vet_store.proofs.MemoryFiles.{files_are_clean}
use Rattle.vet_store.proofs.memory.tables_in_memory_files.Goals as goal

pub returns : goal.returns
returns g c serves =
    c.tables_are_of_register.ensures.stands (files_are_clean (λ _. refl) c.args.store.now.conn) serves
