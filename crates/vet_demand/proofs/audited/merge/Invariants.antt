-- The nodes so far are in one list.
use Rattle.std.proofs.Common.{◌≤◌, ◌+◌, ◌-◌, length}
use Rattle.vet_demand.specs.Audited.{AreParallel, IsMerging, audited_list}
use Rattle.vet_demand.proofs.audited.merge.Given as goal

abbrev pub invariant-nodes : goal.invariant-nodes
invariant-nodes l = record {
  parallel : AreParallel l.all;
  within_first : l.at.first ≤ length (audited_list l.first);
  within_second : l.at.second ≤ length (audited_list l.second);
  merging : IsMerging (audited_list l.first) (audited_list l.second) l.at.first l.at.second (audited_list l.all);
}

abbrev pub decreases-nodes : goal.decreases-nodes
decreases-nodes l = length (audited_list l.first) + length (audited_list l.second) - (l.at.first + l.at.second)
