-- The index of a dependency table's records (ours), by which nodes and edges are found without a walk.
use Rattle.std.specs.Prelude.{◌≡◌, ◌≢◌, ◌<◌, ◌≤◌, List, length}
use Rattle.std.specs.BTreeMap.{is_at}
use Rattle.std.specs.List.{All, AllPairs, list_any}
use Rattle.vet_base.specs.declared.limits.TheConstants.{MOST_NODES, MOST_EDGES}
use Rattle.vet_demand.specs.DependencyTable.{is_stated}
use Rattle.vet_demand.specs.Project.{edge_cmp}
use Rattle.vet_demand.specs.declared.dependency_record.NumberedNode.{NumberedNode}
use Rattle.vet_demand.specs.declared.dependency_record.StatedEdge.{StatedEdge}
use Rattle.vet_demand.specs.declared.project.Edge.{Edge}

-- no two nodes have one number, and there are not too many nodes or edges
pub record IsTable (nodes : List NumberedNode) (edges : List StatedEdge) : Type 0 where
  pub numbers_below : All (λ n. n.number < length nodes) nodes
  pub numbers_differ : AllPairs (λ a b. a.number ≢ b.number) nodes
  pub few_nodes : length nodes ≤ MOST_NODES
  pub few_edges : length edges ≤ MOST_EDGES

-- exactly the stated edges are known
abbrev pub Knows : List StatedEdge → List Edge → Type 0
Knows edges known = (e : Edge) → list_any (is_at (edge_cmp e)) known ≡ is_stated edges e
