-- In memory no name of a table is taken.
use Rattle.std.proofs.Common.{subst, sym}
use Rattle.vet_store.proofs.MemoryFiles.{free_of_nothing}
use Rattle.vet_store.specs.Runs.{IsOfStore}
use Rattle.vetd_program.proofs.serve_run.new_in_memory.Goals as goal

pub returns-in-Err-clause-refused : goal.returns-in-Err-clause-refused
returns-in-Err-clause-refused g c =
    subst IsOfStore (sym c.into_parts-refusal.ensures.refusal)
    (c.in-Err.ensures.refused (free_of_nothing _ c.in_ok-conn.ensures.empty.2))
