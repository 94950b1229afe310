use Rattle.std.proofs.Common.{rules}
use Rattle.std.specs.Ordering.{is_lt}
use Rattle.std.proofs.lemmas.List.Sorted.{IsPartitionPoint-from_clause}
use Rattle.vet_entries.specs.ByPackage.{stand}
use Rattle.vet_entries.proofs.Standing.{parted_lt}
use Rattle.vet_entries.proofs.by_package.lower.Goals as goal

pub returns-clause-point : goal.returns-clause-point
returns-clause-point c =
    let parted = parted_lt (stand c.args.entries.now c.args.name.now) c.args.order.now c.requires in
    IsPartitionPoint-from_clause (λ place. is_lt (stand c.args.entries.now c.args.name.now place)) _ _
    c.partition_point.ensures.partitioned parted (λ a r q k. search rules)
