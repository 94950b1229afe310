-- Dependency tables that differ only in the numbering of their nodes (ours).
use Rattle.std.specs.Prelude.{ℕ, ◌≡◌, ◌<◌, ◌↔◌, List, [], ◌∷◌, Option, Some, None, IsSome, get_or, length, map}
use Rattle.std.specs.List.{All, Contains, flat_map}
use Rattle.std.specs.List.Sorted.{IsPermutation}
use Rattle.vet_base.specs.Words.{Text}
use Rattle.vet_demand.specs.DependencyRecord.{record_stated}
use Rattle.vet_demand.specs.declared.dependency_record.DependencyRecord.{DependencyRecord}
use Rattle.vet_demand.specs.declared.dependency_record.DependencyRecord.TheVariants.{NodeRecord, EdgeRecord}
use Rattle.vet_demand.specs.declared.dependency_record.NumberedNode.{NumberedNode}
use Rattle.vet_demand.specs.declared.project.Edge.{Edge}

-- ---- the nodes and edges that records state, whatever the numbers of these records

abbrev pub node_of : Option DependencyRecord → List NumberedNode
node_of (Some (NodeRecord n)) = n ∷ []
node_of (Some (EdgeRecord s)) = []
node_of None = []

abbrev pub edge_of : Option DependencyRecord → List Edge
edge_of (Some (NodeRecord n)) = []
edge_of (Some (EdgeRecord s)) = s.edge ∷ []
edge_of None = []

-- the nodes that records state, and the edges, in the order of the records
abbrev pub nodes_in : List (List Text) → List NumberedNode
nodes_in = flat_map (λ fields. node_of (record_stated 0 fields))

abbrev pub edges_in : List (List Text) → List Edge
edges_in = flat_map (λ fields. edge_of (record_stated 0 fields))

-- ---- other numbers

-- the same node by its new number
abbrev pub renumbered : (ℕ → ℕ) → NumberedNode → NumberedNode
renumbered rename n = record { number = rename n.number; node = n.node }

-- the same edge between the new numbers
abbrev pub renamed : (ℕ → ℕ) → Edge → Edge
renamed rename e = record { from = rename e.from; to = rename e.to; kind = e.kind }

-- The other records state the same nodes and edges by new numbers, in any order. Each node occurs there once, and its
-- number counts the nodes before it. Equal edges may occur any number of times.
pub record AreRenumbered (rename : ℕ → ℕ) (rows others : List (List Text)) : Type 0 where
  pub apart : (j k : ℕ) → rename j ≡ rename k → j ≡ k
  pub formed : All (λ fields. IsSome (record_stated 0 fields)) others
  pub counted : (k : ℕ) (d : NumberedNode) → k < length (nodes_in others) → (get_or (nodes_in others) k d).number ≡ k
  pub nodes : IsPermutation (map (renumbered rename) (nodes_in rows)) (nodes_in others)
  pub edges : (e : Edge) → Contains (map (renamed rename) (edges_in rows)) e ↔ Contains (edges_in others) e
