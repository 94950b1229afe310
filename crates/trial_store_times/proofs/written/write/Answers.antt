-- The rows of a change have the columns of their tables.
use Rattle.std.proofs.Common.{subst}
use Rattle.trial_store_times.proofs.written.write.Goals as goal
use Rattle.vet_base.specs.Items.{IsIn}

pub commit_changes-requires-clause-fit : goal.commit_changes-requires-clause-fit
commit_changes-requires-clause-fit g c change among =
    c.in_ok-changes.ensures.fit change (subst (λ items. IsIn change items) c.as_slice.ensures.value among)
