use Rattle.std.proofs.Common.{refl, subst, sym}
use Rattle.vet_store.proofs.MemoryFiles.{files_are_clean, free_of_nothing}
use Rattle.vet_store.specs.Runs.{IsOfStore}
use Rattle.vet_store.proofs.memory.run_in_memory_files.Goals as goal

pub returns-in-Ok-clause-tables : goal.returns-in-Ok-clause-tables
returns-in-Ok-clause-tables g c serves =
    c.in-Ok.ensures.tables.stands (files_are_clean (λ _. refl) c.in-Ok.first.store.conn) serves

pub returns-in-Err-clause-refused : goal.returns-in-Err-clause-refused
returns-in-Err-clause-refused g c =
    subst IsOfStore (sym c.into_parts-refusal.ensures.refusal)
    (c.in-Err.ensures.refused (free_of_nothing _ c.in_ok-conn.ensures.empty.2))
