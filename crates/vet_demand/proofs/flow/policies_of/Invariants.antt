-- The policies of the nodes so far.
use Rattle.std.proofs.Common.{take}
use Rattle.vet_demand.specs.Flow.{ArePoliciesOf}
use Rattle.vet_demand.proofs.flow.policies_of.Given as goal

abbrev pub invariant-nodes : goal.invariant-nodes
invariant-nodes l = ArePoliciesOf l.policies.items (take l.node-index l.nodes) l.found.items
