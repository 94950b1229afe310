-- Each record that is written is plain, and is read as what it was written of.
use Rattle.std.proofs.Common.{◌≡◌, ◌<◌, ◌≤◌, ◌^◌, ◌+◌, ℕ, Bool, true, List, [], ◌∷◌, length, map, Option, Some, None}
use Rattle.std.proofs.Common.{refl, arith}
use Rattle.std.specs.Prelude.{◌&&◌, codes, option_and_then, option_map}
use Rattle.std.specs.Fmt.{decimal}
use Rattle.std.specs.List.{All, list_all}
use Rattle.std.proofs.lemmas.Bool.{cond-true}
use Rattle.std.proofs.lemmas.List.Elements.{All-head, All-tail}
use Rattle.csv.specs.Records.{field_at}
use Rattle.vet_base.specs.Name.{is_package_name, read_package_name}
use Rattle.vet_base.specs.Version.{VersionValue, read_version, version_text}
use Rattle.vet_demand.specs.DependencyRecord.{read_kind, read_party, read_version_field, record_stated}
use Rattle.vet_demand.specs.Project.{IsWithin}
use Rattle.vet_demand.specs.WrittenProject.{IsNamed, edge_fields, header_record, kind_word, node_fields, node_records}
use Rattle.vet_demand.specs.WrittenProject.{party_word}
use Rattle.vet_demand.specs.declared.dependency_record.DependencyRecord.{DependencyRecord}
use Rattle.vet_demand.specs.declared.dependency_record.DependencyRecord.TheVariants.{NodeRecord, EdgeRecord}
use Rattle.vet_demand.specs.declared.project.Edge.{Edge}
use Rattle.vet_demand.specs.declared.project.EdgeKind.{EdgeKind}
use Rattle.vet_demand.specs.declared.project.EdgeKind.TheVariants.{Normal, Build, Dev}
use Rattle.vet_demand.specs.declared.project.Node.{Node}
use Rattle.vet_demand.specs.declared.project.Party.{Party}
use Rattle.vet_demand.specs.declared.project.Party.TheVariants.{Root, First, Third}
use Rattle.vet_demand.proofs.PlainFields.{is_plain, number_read, plain_decimal, plain_name, plain_utf8, plain_version}
use Rattle.vet_demand.proofs.WrittenText.{ArePlain, IsPlain}

-- ---- words

party_plain : (p : Party) → list_all is_plain (party_word p) ≡ true
party_plain Root = refl
party_plain First = refl
party_plain Third = refl

kind_plain : (k : EdgeKind) → list_all is_plain (kind_word k) ≡ true
kind_plain Normal = refl
kind_plain Build = refl
kind_plain Dev = refl

party_read : (p : Party) → read_party (party_word p) ≡ Some p
party_read Root = refl
party_read First = refl
party_read Third = refl

kind_read : (k : EdgeKind) → read_kind (kind_word k) ≡ Some k
kind_read Normal = refl
kind_read Build = refl
kind_read Dev = refl

-- ---- a node

five_plain : (a b c d e : Bool) → a ≡ true → b ≡ true → c ≡ true → d ≡ true → e ≡ true
    → (a && (b && (c && (d && (e && true))))) ≡ true
five_plain a b c d e p q r s t = rw (p, q, r, s, t) refl

pub node_plain : (number : ℕ) (n : Node) → number < 10 ^ 9 → IsNamed n → IsPlain (node_fields number n)
node_plain number n small named =
    five_plain (list_all is_plain (codes "node")) (list_all is_plain (decimal number)) (list_all is_plain n.«package»)
    (list_all is_plain (version_text n.version)) (list_all is_plain (party_word n.party)) refl
    (plain_decimal number (omega arith)) (plain_name n.«package» named.name)
    (plain_version (version_text n.version) n.version named.version) (party_plain n.party)

version_read : (v : VersionValue) → read_version (version_text v) ≡ Some v
    → read_version_field (version_text v) ≡ Some v
version_read v h = rw (plain_utf8 (version_text v) (plain_version (version_text v) v h)) h

name_read : (name : List ℕ) → is_package_name name ≡ true → read_package_name name ≡ Some name
name_read name h = cond-true (is_package_name name) (Some name) None h

-- the node of what its fields are read as
node_of_fields : Option ℕ → Option (List ℕ) → Option VersionValue → Option Party → Option DependencyRecord
node_of_fields number name version party =
    option_and_then (λ number. option_map (λ node. NodeRecord (record { number = number; node = node }))
    (option_and_then (λ name. option_and_then
    (λ version. option_map (λ party. record { «package» = name; version = version; party = party }) party)
    version) name)) number

pub node_read : (record_number number : ℕ) (n : Node) → number < 10 ^ 9 → IsNamed n
    → record_stated record_number (node_fields number n) ≡ Some (NodeRecord (record { number = number; node = n }))
unfolding field_at node_of_fields
node_read record_number number n small named =
    λ i. node_of_fields (number_read number small i) (name_read n.«package» named.name i)
    (version_read n.version named.version i) (party_read n.party i)

-- ---- an edge

pub edge_plain : (e : Edge) → e.from < 10 ^ 9 → e.to < 10 ^ 9 → IsPlain (edge_fields e)
edge_plain e from to =
    five_plain (list_all is_plain (codes "edge")) (list_all is_plain (decimal e.from))
    (list_all is_plain (decimal e.to))
    (list_all is_plain (kind_word e.kind)) true refl
    (plain_decimal e.from (omega arith)) (plain_decimal e.to (omega arith)) (kind_plain e.kind) refl

edge_of_fields : ℕ → Option ℕ → Option ℕ → Option EdgeKind → Option DependencyRecord
edge_of_fields record_number from to kind =
    option_map (λ edge. EdgeRecord (record { record_number = record_number; edge = edge }))
    (option_and_then (λ from. option_and_then
    (λ to. option_map (λ kind. record { from = from; to = to; kind = kind }) kind) to) from)

pub edge_read : (record_number : ℕ) (e : Edge) → e.from < 10 ^ 9 → e.to < 10 ^ 9
    → record_stated record_number (edge_fields e) ≡ Some
    (EdgeRecord (record { record_number = record_number; edge = e }))
unfolding field_at edge_of_fields
edge_read record_number e from to =
    λ i. edge_of_fields record_number (number_read e.from from i) (number_read e.to to i) (kind_read e.kind i)

-- ---- all records

pub nodes_plain : (number : ℕ) (nodes : List Node) → number + length nodes ≤ 10 ^ 9 → All IsNamed nodes
    → ArePlain (node_records number nodes)
nodes_plain number [] few named = tt
nodes_plain number (n ∷ rest) few named = (
  node_plain number n (omega arith) (All-head IsNamed n rest named),
  nodes_plain (number + 1) rest (omega arith) (All-tail IsNamed n rest named),
)

pub edges_plain : (many : ℕ) (edges : List Edge) → many ≤ 10 ^ 9 → All (IsWithin many) edges
    → ArePlain (map edge_fields edges)
edges_plain many [] few within = tt
edges_plain many (e ∷ rest) few within =
    let (from, to) = All-head (IsWithin many) e rest within in
    (edge_plain e (omega arith) (omega arith), edges_plain many rest few (All-tail (IsWithin many) e rest within))

pub header_plain : IsPlain header_record
header_plain = refl
