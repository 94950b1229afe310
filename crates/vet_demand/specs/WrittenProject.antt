-- The dependency table that is written for a project (RFC 4180 for its lines; the forms of records are ours).
use Rattle.std.specs.Prelude.{ℕ, ◌≡◌, ◌+◌, true, List, [], ◌∷◌, ◌++◌, codes, map}
use Rattle.std.specs.Fmt.{decimal}
use Rattle.std.specs.List.{flat_map}
use Rattle.vet_base.specs.Name.{is_package_name}
use Rattle.vet_base.specs.Version.{IsVersion, version_text}
use Rattle.vet_base.specs.Words.{Text}
use Rattle.vet_demand.specs.Project.{ProjectValue}
use Rattle.vet_demand.specs.declared.project.Edge.{Edge}
use Rattle.vet_demand.specs.declared.project.EdgeKind.{EdgeKind}
use Rattle.vet_demand.specs.declared.project.EdgeKind.TheVariants.{Normal, Build, Dev}
use Rattle.vet_demand.specs.declared.project.Node.{Node}
use Rattle.vet_demand.specs.declared.project.Party.{Party}
use Rattle.vet_demand.specs.declared.project.Party.TheVariants.{Root, First, Third}

-- ---- records

abbrev pub header_record : List Text
header_record = codes "what" ∷ codes "n" ∷ codes "p" ∷ codes "q" ∷ codes "r" ∷ []

abbrev pub party_word : Party → Text
party_word Root = codes "root"
party_word First = codes "first"
party_word Third = codes "third"

abbrev pub kind_word : EdgeKind → Text
kind_word Normal = codes "normal"
kind_word Build = codes "build"
kind_word Dev = codes "dev"

-- a node's name is well-formed, and the text of its version is read as that version
pub record IsNamed (n : Node) : Type 0 where
  pub name : is_package_name n.«package» ≡ true
  pub version : IsVersion n.version

-- the record of the node of this number
abbrev pub node_fields : ℕ → Node → List Text
node_fields number n = codes "node" ∷ decimal number ∷ n.«package» ∷ version_text n.version ∷ party_word n.party ∷ []

-- the record of an edge between the numbers of nodes
abbrev pub edge_fields : Edge → List Text
edge_fields e = codes "edge" ∷ decimal e.from ∷ decimal e.to ∷ kind_word e.kind ∷ [] ∷ []

-- the records of nodes, numbered from this number on
abbrev pub node_records : ℕ → List Node → List (List Text)
node_records number [] = []
node_records number (n ∷ rest) = node_fields number n ∷ node_records (number + 1) rest

-- the header, the nodes by their places from 0, and the edges
abbrev pub written_records : ProjectValue → List (List Text)
written_records p = header_record ∷ (node_records 0 p.nodes ++ map edge_fields p.edges)

-- ---- their text

-- the line of a record: a comma between two fields, and a line feed at the end
abbrev pub line : List Text → Text
line [] = codes "\n"
line (field ∷ []) = field ++ codes "\n"
line (field ∷ next ∷ rest) = field ++ (codes "," ++ line (next ∷ rest))

-- the lines of records, one after another
abbrev pub lines : List (List Text) → Text
lines = flat_map line

-- the table that is written for a project
abbrev pub written_text : ProjectValue → Text
written_text p = lines (written_records p)
