use Rattle.std.proofs.Common.{rules}
use Rattle.std.specs.Ordering.{is_le}
use Rattle.std.proofs.lemmas.List.Sorted.{IsPartitionPoint-from_clause}
use Rattle.vet_masks.proofs.SideBySide.{parted_le, to_name}
use Rattle.vet_masks.proofs.demanded.up_to.Goals as goal

pub returns-clause-point : goal.returns-clause-point
returns-clause-point c =
    let name = c.args.«package».now in
    IsPartitionPoint-from_clause (λ p. is_le (to_name name p)) _ _ c.partition_point.ensures.partitioned
    (parted_le name c.args.pairs.now c.requires) (λ a r q k. search rules)
