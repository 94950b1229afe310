-- The values so far are those that were gone over.
use Rattle.std.proofs.Common.{◌≡◌}
use Rattle.vet_documents.proofs.names_at.unworded.Given as goal

abbrev pub invariant-found : goal.invariant-found
invariant-found g l = l.values.items ≡ l.yielded
