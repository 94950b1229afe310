-- What the records that are written of a project state is that project.
use Rattle.std.proofs.Common.{◌≡◌, ◌≢◌, ◌<◌, ◌≤◌, ◌+◌, ℕ, suc, Bool, true, false, cond, List, [], ◌∷◌, ◌++◌, length}
use Rattle.std.proofs.Common.{map, get_or, Option, Some, None, Ok, Less, refl, sym, ap, subst, arith, ◌∙◌, append_assoc}
use Rattle.std.proofs.Common.{append-nil, inl, inr}
use Rattle.std.specs.Prelude.{◌==◌, find, nat_le, option_and_then, option_map}
use Rattle.std.specs.BTreeSet.{insert_key}
use Rattle.std.specs.List.{All, position_from}
use Rattle.std.specs.Ordering.{is_eq}
use Rattle.std.proofs.lemmas.Bool.{cases_Bool, eqb-true, false≢true}
use Rattle.std.proofs.lemmas.Bool.Decides.{Decides-eqb, nat_tests}
use Rattle.std.proofs.lemmas.List.{length-append}
use Rattle.std.proofs.lemmas.List.Elements.{All-cons, All-head, All-nil, All-tail}
use Rattle.csv.specs.Records.{field_at}
use Rattle.csv.specs.Reading.{strip_bom}
use Rattle.vet_base.specs.Gives.{Told, found_or, refuse_if, ◌>>=◌}
use Rattle.vet_base.specs.declared.limits.TheConstants.{MOST_NODES, MOST_EDGES}
use Rattle.vet_base.specs.declared.refusal.Refusal.TheVariants.{CsvRefused, UnknownNode}
use Rattle.vet_demand.specs.DependencyRecord.{numbered_cmp, record_stated}
use Rattle.vet_demand.specs.DependencyRecordLaws.{numbered_total}
use Rattle.vet_demand.specs.DependencyTable.{StatedValue, edge_told, fields_told, in_edge_order, is_stated, node_told}
use Rattle.vet_demand.specs.DependencyTable.{place_of, placed, placed_told, project_of_bytes, project_told, record_told}
use Rattle.vet_demand.specs.DependencyTable.{records_told, stated_told, table_told, with_edge, with_record}
use Rattle.vet_demand.specs.Project.{AreInEdgeOrder, AreInNodeOrder, IsProject, IsWithin, ProjectValue, edge_cmp}
use Rattle.vet_demand.specs.Project.{node_cmp}
use Rattle.vet_demand.specs.ProjectLaws.{edge_total}
use Rattle.vet_demand.specs.WrittenProject.{IsNamed, edge_fields, node_fields, node_records, written_records}
use Rattle.vet_demand.specs.WrittenProject.{written_text}
use Rattle.vet_demand.specs.declared.dependency_record.DependencyRecord.{DependencyRecord}
use Rattle.vet_demand.specs.declared.dependency_record.DependencyRecord.TheVariants.{NodeRecord, EdgeRecord}
use Rattle.vet_demand.specs.declared.dependency_record.NumberedNode.{NumberedNode}
use Rattle.vet_demand.specs.declared.dependency_record.StatedEdge.{StatedEdge}
use Rattle.vet_demand.specs.declared.project.Edge.{Edge}
use Rattle.vet_demand.specs.declared.project.Node.{Node}
use Rattle.vet_demand.proofs.KeysInOrder.{insert_last, inserted_in_order, none_found, pairs_before}
use Rattle.vet_demand.proofs.WrittenRecords.{edge_read, edges_plain, header_plain, node_read, nodes_plain}
use Rattle.vet_demand.proofs.WrittenText.{ArePlain, ArePlain-append, lines_read}

-- ---- items counted on from a number

abbrev pub counted_from : {A B : Type 0} → (ℕ → A → B) → ℕ → List A → List B
counted_from count number [] = []
counted_from count number (x ∷ rest) = count number x ∷ counted_from count (number + 1) rest

length-counted : {A B : Type 0} (count : ℕ → A → B) (number : ℕ) (items : List A)
    → length (counted_from count number items) ≡ length items
length-counted count number [] = refl
length-counted count number (x ∷ rest) = ap suc (length-counted count (number + 1) rest)

counted_last : {A B : Type 0} (count : ℕ → A → B) (number : ℕ) (front : List A) (x : A)
    → counted_from count number (front ++ x ∷ [])
    ≡ counted_from count number front ++ count (number + length front) x ∷ []
counted_last count number [] x =
    (let same : number ≡ number + 0 = omega arith in ap (λ (k : ℕ). count k x ∷ []) same)
counted_last {A} {B} count number (y ∷ front) x =
    let same : number + 1 + length front ≡ number + length (y ∷ front) = omega arith in
    ap (λ (others : List B). count number y ∷ others)
    (counted_last count (number + 1) front x
    ∙ ap (λ (k : ℕ). counted_from count (number + 1) front ++ count k x ∷ []) same)

-- ---- nodes

abbrev numbered : ℕ → Node → NumberedNode
numbered number n = record { number = number; node = n }

-- nodes with their numbers, on from that of the first
abbrev pub numbered_from : ℕ → List Node → List NumberedNode
numbered_from = counted_from numbered

numbered_before : (k : ℕ) (n : Node) (number : ℕ) (front : List Node) → All (λ m. node_cmp m n ≡ Less) front
    → All (λ m. numbered_cmp m (record { number = k; node = n }) ≡ Less) (numbered_from number front)
numbered_before k n number [] h = All-nil (λ m. numbered_cmp m (record { number = k; node = n }) ≡ Less)
numbered_before k n number (m ∷ front) h =
    All-cons (λ m. numbered_cmp m (record { number = k; node = n }) ≡ Less) (record { number = number; node = m })
    (numbered_from (number + 1) front)
    (All-head (λ m. node_cmp m n ≡ Less) m front h)
    (numbered_before k n (number + 1) front (All-tail (λ m. node_cmp m n ≡ Less) m front h))

abbrev stated : List NumberedNode → List StatedEdge → StatedValue
stated nodes edges = record { nodes = nodes; edges = edges }

-- a record that is read and has no fault
no_fault : (number : ℕ) (s more : StatedValue) (fields : List (List ℕ)) (found : DependencyRecord)
    → record_stated number fields ≡ Some found
    → record_told number s found ≡ Ok (tt {0}) → with_record s found ≡ more → fields_told number s fields ≡ Ok more
no_fault number s more fields found read told same =
    ap (λ (o : Option DependencyRecord). taken (found_or (CsvRefused number) o)) read
    ∙ ap (λ (t : Told (Unit {0})). t >>= (λ _. done)) told
    ∙ ap (λ (v : StatedValue). Ok v) same
  where
    done : Told StatedValue
    done = Ok (with_record s found)

    taken : Told DependencyRecord → Told StatedValue
    taken t = t >>= (λ found. record_told number s found >>= (λ _. Ok (with_record s found)))

pub node_told_ok : (number : ℕ) (nodes : List NumberedNode) (n : NumberedNode) → n.number ≡ length nodes
    → find (λ m. is_eq (numbered_cmp n m)) nodes ≡ None
    → length nodes < MOST_NODES → node_told number nodes n ≡ Ok (tt {0})
node_told_ok number nodes n own new few =
    let counted : (n.number == length nodes) ≡ true = (Decides-eqb n.number (length nodes)).1 own in
    let below : nat_le MOST_NODES (length nodes) ≡ false = grind (arith, nat_tests, few) in
    rw (counted, new, below) refl

next_node : (number : ℕ) (front : List Node) (n : Node) (rest : List Node) → AreInNodeOrder (front ++ n ∷ rest)
    → IsNamed n → length front < MOST_NODES
    → fields_told number (stated (numbered_from 0 front) []) (node_fields (length front) n) ≡ Ok
    (stated (numbered_from 0 (front ++ n ∷ [])) [])
next_node number front n rest order named few =
    let m : NumberedNode = record { number = length front; node = n } in
    let behind = numbered_before (length front) n 0 front
    (pairs_before (λ a b. node_cmp a b ≡ Less) front n rest order) in
    let many = length-counted numbered 0 front in
    let place : 0 + length front ≡ length front = omega arith in
    let put : insert_key numbered_cmp (numbered_from 0 front) m ≡ numbered_from 0 (front ++ n ∷ []) =
    insert_last numbered_cmp numbered_total (numbered_from 0 front) m behind
    ∙ ap (λ (k : ℕ). numbered_from 0 front ++ record { number = k; node = n } ∷ []) (sym place)
    ∙ sym (counted_last numbered 0 front n) in
    no_fault number (stated (numbered_from 0 front) []) (stated (numbered_from 0 (front ++ n ∷ [])) [])
    (node_fields (length front) n) (NodeRecord m)
    (node_read number (length front) n (omega (arith, few)) named)
    (node_told_ok number (numbered_from 0 front) m (sym many)
    (none_found numbered_cmp numbered_total (numbered_from 0 front) m behind) (omega (arith, many, few)))
    (ap (λ (ns : List NumberedNode). stated ns []) put)

-- the records of nodes in order state them by their places
nodes_stated : (number : ℕ) (front rest : List Node) (rows : List (List (List ℕ))) → AreInNodeOrder (front ++ rest)
    → All IsNamed rest
    → length front + length rest ≤ MOST_NODES
    → records_told number (stated (numbered_from 0 front) []) (node_records (length front) rest ++ rows)
    ≡ records_told (number + length rest) (stated (numbered_from 0 (front ++ rest)) []) rows
nodes_stated number front [] rows order named few =
    let same : number ≡ number + 0 = omega arith in
    ap (λ (k : ℕ). records_told k (stated (numbered_from 0 front) []) rows) same
    ∙ ap (λ (ns : List Node). records_told (number + 0) (stated (numbered_from 0 ns) []) rows) (sym (append-nil front))
nodes_stated number front (n ∷ rest) rows order named few =
    let whole = append_assoc front (n ∷ []) rest in
    let longer : length (front ++ n ∷ []) ≡ length front + 1 = length-append front (n ∷ []) in
    let same : number + 1 + length rest ≡ number + length (n ∷ rest) = omega arith in
    ap (λ (t : Told StatedValue). t
    >>= (λ more. records_told (number + 1) more (node_records (length front + 1) rest ++ rows)))
    (next_node number front n rest order (All-head IsNamed n rest named) (omega (arith, few)))
    ∙ ap (λ (k : ℕ). records_told (number + 1) (stated (numbered_from 0 (front ++ n ∷ [])) [])
    (node_records k rest ++ rows)) (sym longer)
    ∙ nodes_stated (number + 1) (front ++ n ∷ []) rest rows (subst AreInNodeOrder (sym whole) order)
    (All-tail IsNamed n rest named) (omega (arith, longer, few))
    ∙ ap (λ (k : ℕ). records_told k (stated (numbered_from 0 ((front ++ n ∷ []) ++ rest)) []) rows) same
    ∙ ap (λ (ns : List Node). records_told (number + length (n ∷ rest)) (stated (numbered_from 0 ns) []) rows) whole

-- ---- edges

abbrev stated_at : ℕ → Edge → StatedEdge
stated_at number e = record { record_number = number; edge = e }

-- edges with the numbers of their records, on from that of the first
abbrev pub stated_from : ℕ → List Edge → List StatedEdge
stated_from = counted_from stated_at

not_stated : (number : ℕ) (front : List Edge) (e : Edge) → All (λ f. edge_cmp f e ≡ Less) front
    → is_stated (stated_from number front) e ≡ false
not_stated number [] e h = refl
not_stated number (f ∷ front) e h =
    rw (All-head (λ g. edge_cmp g e ≡ Less) f front h)
    (not_stated (number + 1) front e (All-tail (λ g. edge_cmp g e ≡ Less) f front h))

next_edge : (start : ℕ) (nodes : List NumberedNode) (front : List Edge) (e : Edge) (rest : List Edge)
    → AreInEdgeOrder (front ++ e ∷ rest)
    → IsWithin MOST_NODES e → length front < MOST_EDGES
    → fields_told (start + length front) (stated nodes (stated_from start front)) (edge_fields e) ≡ Ok
    (stated nodes (stated_from start (front ++ e ∷ [])))
next_edge start nodes front e rest order within few =
    let number = start + length front in
    let so_far = stated_from start front in
    let s : StatedEdge = record { record_number = number; edge = e } in
    let new : is_stated so_far e ≡ false =
    not_stated start front e (pairs_before (λ a b. edge_cmp a b ≡ Less) front e rest order) in
    let many = length-counted stated_at start front in
    let below : nat_le MOST_EDGES (length so_far) ≡ false = grind (arith, nat_tests, few, many) in
    let told : edge_told so_far s ≡ Ok (tt {0}) = rw (new, below) refl in
    let put : with_edge so_far s ≡ stated_from start (front ++ e ∷ []) =
    ap (λ (b : Bool). cond b so_far (so_far ++ s ∷ [])) new ∙ sym (counted_last stated_at start front e) in
    let (from, to) = within in
    no_fault number (stated nodes so_far) (stated nodes (stated_from start (front ++ e ∷ [])))
    (edge_fields e) (EdgeRecord s)
    (edge_read number e (omega (arith, from)) (omega (arith, to))) told (ap (stated nodes) put)

-- the records of edges in order state them, each once
edges_stated : (start : ℕ) (nodes : List NumberedNode) (front rest : List Edge) → AreInEdgeOrder (front ++ rest)
    → All (IsWithin MOST_NODES) rest
    → length front + length rest ≤ MOST_EDGES
    → records_told (start + length front) (stated nodes (stated_from start front)) (map edge_fields rest) ≡ Ok
    (stated nodes (stated_from start (front ++ rest)))
edges_stated start nodes front [] order within few =
    ap (λ (es : List Edge). Ok (stated nodes (stated_from start es))) (sym (append-nil front))
edges_stated start nodes front (e ∷ rest) order within few =
    let whole = append_assoc front (e ∷ []) rest in
    let longer : length (front ++ e ∷ []) ≡ length front + 1 = length-append front (e ∷ []) in
    let same : start + length front + 1 ≡ start + length (front ++ e ∷ []) = omega (arith, longer) in
    ap (λ (t : Told StatedValue). t >>= (λ more. records_told (start + length front + 1) more (map edge_fields rest)))
    (next_edge start nodes front e rest order (All-head (IsWithin MOST_NODES) e rest within) (omega (arith, few)))
    ∙ ap (λ (k : ℕ). records_told k (stated nodes (stated_from start (front ++ e ∷ []))) (map edge_fields rest)) same
    ∙ edges_stated start nodes (front ++ e ∷ []) rest (subst AreInEdgeOrder (sym whole) order)
    (All-tail (IsWithin MOST_NODES) e rest within) (omega (arith, longer, few))
    ∙ ap (λ (es : List Edge). Ok (stated nodes (stated_from start es))) whole

-- ---- the table

all_within : (many most : ℕ) (edges : List Edge) → many ≤ most → All (IsWithin many) edges → All (IsWithin most) edges
all_within many most edges few h k d l = (let (from, to) = h k d l in (omega (arith, from), omega (arith, to)))

-- what the records of a project state
abbrev pub stated_of : ProjectValue → StatedValue
stated_of p = stated (numbered_from 0 p.nodes) (stated_from (2 + length p.nodes) p.edges)

table_stated : (p : ProjectValue) → IsProject p → All IsNamed p.nodes
    → table_told (written_records p) ≡ Ok (stated_of p)
unfolding field_at
table_stated p is named =
    let few = is.few_nodes in
    let edges = is.few_edges in
    let same : 2 + length p.nodes ≡ 2 + length p.nodes + 0 = omega arith in
    nodes_stated 2 [] p.nodes (map edge_fields p.edges) is.nodes_in_order named (omega (arith, few))
    ∙ ap (λ (k : ℕ). records_told k (stated (numbered_from 0 p.nodes) []) (map edge_fields p.edges)) same
    ∙ edges_stated (2 + length p.nodes) (numbered_from 0 p.nodes) [] p.edges is.edges_in_order
    (all_within (length p.nodes) MOST_NODES p.edges few is.within) (omega (arith, edges))

-- ---- the project

nodes_of_numbered : (number : ℕ) (nodes : List Node) → map (λ n. n.node) (numbered_from number nodes) ≡ nodes
nodes_of_numbered number [] = refl
nodes_of_numbered number (n ∷ rest) = ap (λ (ns : List Node). n ∷ ns) (nodes_of_numbered (number + 1) rest)

-- each number is the place of its node
number_placed : (k number : ℕ) (nodes : List Node) → number ≤ k → k < number + length nodes
    → position_from (λ n. n.number == k) number (numbered_from number nodes) ≡ Some k
number_placed k number [] low high = absurd (omega (arith, low, high))
number_placed k number (n ∷ rest) low high = elim (cases_Bool (number == k)) [
  | inl here ↦ rw here (ap (λ (m : ℕ). Some m) (eqb-true number k here))
  | inr later ↦
      let apart : number ≢ k = λ e. false≢true (sym later ∙ (Decides-eqb number k).1 e) in
      rw later (number_placed k (number + 1) rest (omega (arith, apart, low)) (omega (arith, high)))
]

placed_same : (nodes : List Node) (e : Edge) → IsWithin (length nodes) e
    → placed (place_of (numbered_from 0 nodes)) e ≡ Some e
placed_same nodes e within =
    let (from, to) = within in
    let first = number_placed e.from 0 nodes (omega arith) (omega (arith, from)) in
    let second = number_placed e.to 0 nodes (omega arith) (omega (arith, to)) in
    λ i. option_and_then (λ from. option_map (λ to. let f : Edge = record { from = from; to = to; kind = e.kind } in
    f) (second i)) (first i)

all_placed : (place : ℕ → Option ℕ) (number : ℕ) (edges : List Edge) → All (λ e. placed place e ≡ Some e) edges
    → placed_told place (stated_from number edges) ≡ Ok edges
all_placed place number [] h = refl
all_placed place number (e ∷ rest) h =
    let here = All-head (λ f. placed place f ≡ Some f) e rest h in
    let others = all_placed place (number + 1) rest (All-tail (λ f. placed place f ≡ Some f) e rest h) in
    λ i. found_or (UnknownNode number) (here i) >>= (λ f. others i >>= (λ more. Ok (f ∷ more)))

abbrev told : List Node → List Edge → Told ProjectValue
told nodes edges = Ok (record { nodes = nodes; edges = edges })

project_stated : (p : ProjectValue) → IsProject p → stated_told (stated_of p) ≡ Ok p
project_stated p is =
    let many = length-counted numbered 0 p.nodes in
    let some : (length (numbered_from 0 p.nodes) == 0) ≡ false =
    (let full = is.some_nodes in grind (arith, nat_tests, many, full)) in
    let between = all_placed (place_of (numbered_from 0 p.nodes)) (2 + length p.nodes) p.edges
    (λ k d l. placed_same p.nodes (get_or p.edges k d) (is.within k d l)) in
    let order = inserted_in_order edge_cmp edge_total p.edges is.edges_in_order in
    let nodes = nodes_of_numbered 0 p.nodes in
    let all : stated_told (stated_of p) ≡ told p.nodes (in_edge_order p.edges) =
    λ i. refuse_if (some i) (CsvRefused 2) >>= (λ _. between i >>= (λ es. Ok (in_edge_order es)))
    >>= (λ edges. told (nodes i) edges) in
    all ∙ ap (told p.nodes) order

-- a project's table is read as the project
pub written_is_read : (p : ProjectValue) → IsProject p → All IsNamed p.nodes → project_of_bytes (written_text p) ≡ Ok p
unfolding strip_bom
written_is_read p is named =
    let few = is.few_nodes in
    let plain : ArePlain (written_records p) = (
      header_plain,
      ArePlain-append (node_records 0 p.nodes) (map edge_fields p.edges)
          (nodes_plain 0 p.nodes (omega (arith, few)) named)
          (edges_plain (length p.nodes) p.edges (omega (arith, few)) is.within),
    ) in
    ap project_told (lines_read (written_records p) plain)
    ∙ ap (λ (t : Told StatedValue). t >>= stated_told) (table_stated p is named) ∙ project_stated p is
