use Rattle.std.proofs.Common.{rules}
use Rattle.std.specs.Ordering.{is_le}
use Rattle.std.proofs.lemmas.List.Sorted.{IsPartitionPoint-from_clause}
use Rattle.vet_entries.specs.ByPackage.{stand}
use Rattle.vet_entries.proofs.Standing.{parted_le}
use Rattle.vet_entries.proofs.by_package.upper.Goals as goal

pub returns-clause-point : goal.returns-clause-point
returns-clause-point c =
    let parted = parted_le (stand c.args.entries.now c.args.name.now) c.args.order.now c.requires in
    IsPartitionPoint-from_clause (λ place. is_le (stand c.args.entries.now c.args.name.now place)) _ _
    c.partition_point.ensures.partitioned parted (λ a r q k. search rules)
