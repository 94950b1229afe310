use Rattle.std.proofs.Common.{refl}
use Rattle.vet_store.proofs.MemoryFiles.{files_are_clean, shows_nothing}
use Rattle.vet_store.proofs.memory.file.connect_in_memory.Goals as goal

pub returns-in-Ok-clause-empty : goal.returns-in-Ok-clause-empty
returns-in-Ok-clause-empty c =
    let clean = files_are_clean (λ _. refl) c.in-Ok.conn in
    shows_nothing _ c.in-Ok.conn c.new-2.ensures (c.in-Ok.ensures.opened clean) (c.in-Ok.ensures.found clean)
