-- The project that a dependency table states, or its first fault (RFC 4180 for records; the rest is ours).
use Rattle.std.specs.Prelude.{ℕ, ◌==◌, ◌+◌, not, ◌&&◌, nat_le, Bool, true, false, List, [], ◌∷◌, ◌++◌, Option, Some}
use Rattle.std.specs.Prelude.{None, Ok, Err, length, map, find, fold, if◌then◌else◌, option_and_then, option_map}
use Rattle.std.specs.Bool.{beq}
use Rattle.std.specs.List.{list_any, position_from}
use Rattle.std.specs.Ordering.{is_eq}
use Rattle.std.specs.BTreeSet.{insert_key}
use Rattle.csv.specs.Reading.{default_config, records, strip_bom}
use Rattle.vet_base.specs.Gives.{Told, found_or, refuse_if, ◌>>=◌}
use Rattle.vet_base.specs.Words.{Bytes, Text}
use Rattle.vet_base.specs.declared.limits.TheConstants.{MOST_NODES, MOST_EDGES}
use Rattle.vet_base.specs.declared.refusal.Limit.TheVariants.{Nodes, Edges}
use Rattle.vet_base.specs.declared.refusal.Refusal.TheVariants.{CsvRefused, TooLarge, TwoParties, UnknownNode}
use Rattle.vet_demand.specs.DependencyRecord.{is_header, numbered_cmp, record_stated}
use Rattle.vet_demand.specs.Project.{ProjectValue, edge_cmp, edge_eq}
use Rattle.vet_demand.specs.declared.dependency_record.DependencyRecord.{DependencyRecord}
use Rattle.vet_demand.specs.declared.dependency_record.DependencyRecord.TheVariants.{NodeRecord, EdgeRecord}
use Rattle.vet_demand.specs.declared.dependency_record.NumberedNode.{NumberedNode}
use Rattle.vet_demand.specs.declared.dependency_record.StatedEdge.{StatedEdge}
use Rattle.vet_demand.specs.declared.project.Edge.{Edge}
use Rattle.vet_demand.specs.declared.project.Party.{Party}
use Rattle.vet_demand.specs.declared.project.Party.TheVariants.{Root, First, Third}

-- ---- the nodes and edges that records state

-- nodes by name and version, and edges in the order of their records, the first of equal ones
pub record StatedValue : Type 0 where
  pub nodes : List NumberedNode
  pub edges : List StatedEdge

abbrev pub nothing_stated : StatedValue
nothing_stated = record { nodes = []; edges = [] }

-- whether an edge is one of these
abbrev pub is_stated : List StatedEdge → Edge → Bool
is_stated edges e = list_any (λ s. edge_eq s.edge e) edges

abbrev pub with_edge : List StatedEdge → StatedEdge → List StatedEdge
with_edge edges e = if is_stated edges e.edge then edges else edges ++ (e ∷ [])

-- the same with one record more
abbrev pub with_record : StatedValue → DependencyRecord → StatedValue
with_record s (NodeRecord n) = record { nodes = insert_key numbered_cmp s.nodes n; edges = s.edges }
with_record s (EdgeRecord e) = record { nodes = s.nodes; edges = with_edge s.edges e }

-- ---- faults, record by record

abbrev pub is_third : Party → Bool
is_third Root = false
is_third First = false
is_third Third = true

-- the fault of a node that an earlier record gave, with the same party or the other; root and first count as the same
abbrev pub double_told : ℕ → Party → Option NumberedNode → Told (Unit {0})
double_told number party None = Ok tt
double_told number party (Some before) =
    if beq (is_third before.node.party) (is_third party) then Err (CsvRefused number) else Err (TwoParties number)

-- the first fault of a node after these; its own number counts the nodes before it
abbrev pub node_told : ℕ → List NumberedNode → NumberedNode → Told (Unit {0})
node_told number nodes n =
    refuse_if (not (n.number == length nodes)) (CsvRefused number)
    >>= (λ _. double_told number n.node.party (find (λ m. is_eq (numbered_cmp n m)) nodes))
    >>= (λ _. refuse_if (nat_le MOST_NODES (length nodes)) (TooLarge Nodes))

-- the fault of an edge after these
abbrev pub edge_told : List StatedEdge → StatedEdge → Told (Unit {0})
edge_told edges e = refuse_if (not (is_stated edges e.edge) && nat_le MOST_EDGES (length edges)) (TooLarge Edges)

abbrev pub record_told : ℕ → StatedValue → DependencyRecord → Told (Unit {0})
record_told number s (NodeRecord n) = node_told number s.nodes n
record_told number s (EdgeRecord e) = edge_told s.edges e

-- the nodes and edges stated with the fields of this record, or its first fault
abbrev pub fields_told : ℕ → StatedValue → List Text → Told StatedValue
fields_told number s fields =
    found_or (CsvRefused number) (record_stated number fields)
    >>= (λ found. record_told number s found >>= (λ _. Ok (with_record s found)))

-- the nodes and edges stated with these records, the first of which has this number, or the first fault
abbrev pub records_told : ℕ → StatedValue → List (List Text) → Told StatedValue
records_told number s [] = Ok s
records_told number s (fields ∷ rest) = fields_told number s fields >>= (λ more. records_told (number + 1) more rest)

-- ---- the project

-- the place of the node of a number, if there is one
abbrev pub place_of : List NumberedNode → ℕ → Option ℕ
place_of nodes number = position_from (λ n. n.number == number) 0 nodes

-- an edge between the places of the two numbers that it names, if both have one
abbrev pub placed : (ℕ → Option ℕ) → Edge → Option Edge
placed place e =
    option_and_then (λ from. option_map (λ to. record { from = from; to = to; kind = e.kind }) (place e.to))
    (place e.from)

-- the edges between places, or the fault of the first that names no node
abbrev pub placed_told : (ℕ → Option ℕ) → List StatedEdge → Told (List Edge)
placed_told place [] = Ok []
placed_told place (s ∷ rest) =
    found_or (UnknownNode s.record_number) (placed place s.edge)
    >>= (λ e. placed_told place rest >>= (λ more. Ok (e ∷ more)))

-- edges in their order, each once
abbrev pub in_edge_order : List Edge → List Edge
in_edge_order = fold (insert_key edge_cmp) []

-- the edges between places, in order, or the fault of the first that names no node
abbrev pub edges_told : (ℕ → Option ℕ) → List StatedEdge → Told (List Edge)
edges_told place edges = placed_told place edges >>= (λ between. Ok (in_edge_order between))

-- the project of the stated nodes and edges; there must be at least one node
abbrev pub stated_told : StatedValue → Told ProjectValue
stated_told s =
    refuse_if (length s.nodes == 0) (CsvRefused 2)
    >>= (λ _. edges_told (place_of s.nodes) s.edges)
    >>= (λ edges. Ok (record { nodes = map (λ n. n.node) s.nodes; edges = edges }))

-- the nodes and edges that the records of a table state, or their first fault
abbrev pub table_told : List (List Text) → Told StatedValue
table_told [] = Err (CsvRefused 1)
table_told (header ∷ rows) = refuse_if (not (is_header header)) (CsvRefused 1)
    >>= (λ _. records_told 2 nothing_stated rows)

-- the project that they state, or the first fault of all
abbrev pub project_told : List (List Text) → Told ProjectValue
project_told rows = table_told rows >>= stated_told

-- the project that the records of some bytes state; the bytes may begin with a byte order mark
abbrev pub project_of_bytes : Bytes → Told ProjectValue
project_of_bytes bytes = project_told (records default_config (strip_bom bytes))
