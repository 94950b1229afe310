-- Projects (ours): nodes, each a version of a package with its party, and edges of three kinds between their places.
use Rattle.std.specs.Prelude.{ℕ, ◌≡◌, ◌≤◌, ◌<◌, ◌&&◌, nat_eq, Bool, List, length}
use Rattle.std.specs.List.{All, AllPairs}
use Rattle.std.specs.Ordering.{nat_cmp, on, then_cmp, eq_by_cmp}
use Rattle.std.specs.Cmp.Lexicographic.{slice_cmp, pointwise}
use Rattle.std.specs.declared.cmp.Ordering.{Ordering}
use Rattle.std.specs.declared.cmp.Ordering.TheVariants.{Less}
use Rattle.vet_base.specs.declared.limits.TheConstants.{MOST_NODES, MOST_EDGES}
use Rattle.vet_base.specs.VersionOrder.{version_cmp, version_eq}
use Rattle.vet_demand.specs.declared.project.Party.{Party}
use Rattle.vet_demand.specs.declared.project.Party.TheVariants.{Root, First, Third}
use Rattle.vet_demand.specs.declared.project.EdgeKind.{EdgeKind}
use Rattle.vet_demand.specs.declared.project.EdgeKind.TheVariants.{Normal, Build, Dev}
use Rattle.vet_demand.specs.declared.project.Node.{Node}
use Rattle.vet_demand.specs.declared.project.Edge.{Edge}

-- a project: its nodes, and its edges, which name the nodes by their places
pub record ProjectValue : Type 0 where
  pub nodes : List Node
  pub edges : List Edge

-- ---- the places of parties and kinds in their orders

abbrev pub party_place : Party → ℕ
party_place Root = 0
party_place First = 1
party_place Third = 2

abbrev pub kind_place : EdgeKind → ℕ
kind_place Normal = 0
kind_place Build = 1
kind_place Dev = 2

abbrev pub party_eq : Party → Party → Bool
party_eq a b = nat_eq (party_place a) (party_place b)

abbrev pub kind_eq : EdgeKind → EdgeKind → Bool
kind_eq a b = nat_eq (kind_place a) (kind_place b)

-- ---- nodes

-- the order of nodes: by the bytes of the package's name, then by version
abbrev pub node_cmp : Node → Node → Ordering
node_cmp = then_cmp (on (λ n. n.«package») (slice_cmp nat_cmp)) (on (λ n. n.version) version_cmp)

-- each node comes before those after it, so that no name occurs twice with one version
abbrev pub AreInNodeOrder : List Node → Type 0
AreInNodeOrder nodes = AllPairs (λ a b. node_cmp a b ≡ Less) nodes

-- the same name and version, and the same party
abbrev pub node_eq : Node → Node → Bool
node_eq a b = pointwise nat_eq a.«package» b.«package» && version_eq a.version b.version && party_eq a.party b.party

-- ---- edges

-- the order of edges: by the place where they start, then by the place where they end, then by kind
abbrev pub edge_cmp : Edge → Edge → Ordering
edge_cmp = then_cmp (on (λ e. e.from) nat_cmp) (then_cmp (on (λ e. e.to) nat_cmp) (on (λ e. kind_place e.kind) nat_cmp))

-- whether two edges tie
abbrev pub edge_eq : Edge → Edge → Bool
edge_eq = eq_by_cmp edge_cmp

-- each edge comes before those after it
abbrev pub AreInEdgeOrder : List Edge → Type 0
AreInEdgeOrder edges = AllPairs (λ a b. edge_cmp a b ≡ Less) edges

-- an edge is between two of this many nodes
abbrev pub IsWithin : ℕ → Edge → Type 0
IsWithin many e = (e.from < many) × (e.to < many)

-- ---- projects

-- nodes in order, at least one but not too many, and edges between them in order, not too many
pub record IsProject (p : ProjectValue) : Type 0 where
  pub nodes_in_order : AreInNodeOrder p.nodes
  pub edges_in_order : AreInEdgeOrder p.edges
  pub within : All (IsWithin (length p.nodes)) p.edges
  pub some_nodes : 0 < length p.nodes
  pub few_nodes : length p.nodes ≤ MOST_NODES
  pub few_edges : length p.edges ≤ MOST_EDGES

-- the same nodes and edges
abbrev pub project_eq : ProjectValue → ProjectValue → Bool
project_eq a b = pointwise node_eq a.nodes b.nodes && pointwise edge_eq a.edges b.edges
