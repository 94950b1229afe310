use Rattle.std.proofs.Common.{subst}
use Rattle.vet_entries.specs.Publishers.{IsInOrder}
use Rattle.vet_entries.proofs.Records.{same_records}
use Rattle.vet_entries.proofs.publishers.same_records_are_equal.Goals as goal

pub returns : goal.returns
returns c same =
    same_records c.args.a.now c.args.b.now (subst IsInOrder c.a.view_is c.a.invariant)
    (subst IsInOrder c.b.view_is c.b.invariant)
    (λ p. (same p).0) (λ p. (same p).1)
