-- The order of numbered nodes is total (ours).
use Rattle.std.specs.Cmp.{IsTotalOrder, on_total}
use Rattle.vet_demand.specs.ProjectLaws.{node_total}
use Rattle.vet_demand.specs.declared.dependency_record.NumberedNode.{NumberedNode}
use Rattle.vet_demand.specs.DependencyRecord.{numbered_cmp}

pub numbered_total : IsTotalOrder numbered_cmp
numbered_total = on_total (λ (n : NumberedNode). n.node) node_total
