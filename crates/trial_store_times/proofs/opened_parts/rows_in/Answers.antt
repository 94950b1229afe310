use Rattle.std.proofs.Common.{subst}
use Rattle.trial_store_times.proofs.opened_parts.rows_in.Goals as goal
use Rattle.vet_tables.specs.Versions.{HasVersion}

pub read_rows-requires : goal.read_rows-requires
read_rows-requires g c clean =
    subst (HasVersion c.in-Some.version) c.schema.ensures.value (rw c.in-Some.is at c.version_of.ensures.found)
