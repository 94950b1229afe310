-- Records of a dependency table (RFC 4180 for records and fields; their forms are ours), each by itself.
use Rattle.std.specs.Prelude.{ℕ, ◌==◌, ◌&&◌, nat_le, Bool, List, [], Option, Some, None, length, codes, if◌then◌else◌}
use Rattle.std.specs.Prelude.{option_and_then, option_map, unwrap_or}
use Rattle.std.specs.Char.{is_ascii_digit}
use Rattle.std.specs.List.{list_all}
use Rattle.std.specs.Ordering.{on, eq_by_cmp}
use Rattle.std.specs.Str.{bytes_eq, is_utf8}
use Rattle.std.specs.Str.Parse.{digits_value}
use Rattle.std.specs.declared.cmp.Ordering.{Ordering}
use Rattle.csv.specs.Records.{field_at}
use Rattle.vet_base.specs.Name.{read_package_name}
use Rattle.vet_base.specs.Version.{VersionValue, read_version}
use Rattle.vet_base.specs.Words.{Text}
use Rattle.vet_demand.specs.Project.{node_cmp}
use Rattle.vet_demand.specs.declared.dependency_record.DependencyRecord.{DependencyRecord}
use Rattle.vet_demand.specs.declared.dependency_record.DependencyRecord.TheVariants.{NodeRecord, EdgeRecord}
use Rattle.vet_demand.specs.declared.dependency_record.NumberedNode.{NumberedNode}
use Rattle.vet_demand.specs.declared.project.Edge.{Edge}
use Rattle.vet_demand.specs.declared.project.EdgeKind.{EdgeKind}
use Rattle.vet_demand.specs.declared.project.EdgeKind.TheVariants.{Normal, Build, Dev}
use Rattle.vet_demand.specs.declared.project.Node.{Node}
use Rattle.vet_demand.specs.declared.project.Party.{Party}
use Rattle.vet_demand.specs.declared.project.Party.TheVariants.{Root, First, Third}

-- ---- fields

-- the field at a place, which is empty if there is none
abbrev pub field : List Text → ℕ → Text
field fields place = unwrap_or (field_at fields place) []

abbrev pub is_word : List Text → ℕ → Text → Bool
is_word fields place word = bytes_eq (field fields place) word

abbrev pub has_five : List Text → Bool
has_five fields = length fields == 5

-- whether a record is the header
abbrev pub is_header : List Text → Bool
is_header fields =
    has_five fields && is_word fields 0 (codes "what") && is_word fields 1 (codes "n") && is_word fields 2 (codes "p")
    && is_word fields 3 (codes "q") && is_word fields 4 (codes "r")

-- whether a text is a number in 1 to 9 digits
abbrev pub is_number : Text → Bool
is_number text = nat_le 1 (length text) && nat_le (length text) 9 && list_all is_ascii_digit text

abbrev pub read_number : Text → Option ℕ
read_number text = if is_number text then Some (digits_value 10 text) else None

-- a version, in a field that is text
abbrev pub read_version_field : Text → Option VersionValue
read_version_field bytes = if is_utf8 bytes then read_version bytes else None

abbrev pub read_party : Text → Option Party
read_party word =
    if bytes_eq word (codes "root") then Some Root
    else if bytes_eq word (codes "first") then Some First
    else if bytes_eq word (codes "third") then Some Third
    else None

abbrev pub read_kind : Text → Option EdgeKind
read_kind word =
    if bytes_eq word (codes "normal") then Some Normal
    else if bytes_eq word (codes "build") then Some Build
    else if bytes_eq word (codes "dev") then Some Dev
    else None

-- ---- records

-- the node that the last three fields state
abbrev pub node_stated : List Text → Option Node
node_stated fields =
    option_and_then (λ name. option_and_then (λ version. option_map
    (λ party. record { «package» = name; version = version; party = party })
    (read_party (field fields 4))) (read_version_field (field fields 3))) (read_package_name (field fields 2))

-- the record of a node: its number, then the node
abbrev pub node_record : List Text → Option DependencyRecord
node_record fields =
    option_and_then (λ number. option_map (λ node. NodeRecord (record { number = number; node = node }))
    (node_stated fields)) (read_number (field fields 1))

-- the edge that the middle three fields state, between the numbers of nodes
abbrev pub edge_stated : List Text → Option Edge
edge_stated fields =
    option_and_then (λ from. option_and_then (λ to. option_map (λ kind. record { from = from; to = to; kind = kind })
    (read_kind (field fields 3))) (read_number (field fields 2))) (read_number (field fields 1))

-- the record of an edge, whose last field is empty
abbrev pub edge_record : ℕ → List Text → Option DependencyRecord
edge_record number fields =
    if is_word fields 4 []
    then option_map (λ edge. EdgeRecord (record { record_number = number; edge = edge })) (edge_stated fields)
    else None

-- the node or the edge that the record of this number states, if it has such a form
abbrev pub record_stated : ℕ → List Text → Option DependencyRecord
record_stated number fields =
    if has_five fields && is_word fields 0 (codes "node") then node_record fields
    else if has_five fields && is_word fields 0 (codes "edge") then edge_record number fields
    else None

-- ---- nodes by name and version

-- by the bytes of the package's name, then by version
abbrev pub numbered_cmp : NumberedNode → NumberedNode → Ordering
numbered_cmp = on (λ n. n.node) node_cmp

-- whether two have the same name and version
abbrev pub numbered_eq : NumberedNode → NumberedNode → Bool
numbered_eq = eq_by_cmp numbered_cmp
