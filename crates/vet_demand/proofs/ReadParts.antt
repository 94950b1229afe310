-- What records add to what was stated before, where none has a fault.
use Rattle.std.proofs.Common.{◌≡◌, ◌<◌, ◌≤◌, ◌⊎◌, ◌+◌, ℕ, Bool, true, false, cond, List, [], ◌∷◌, ◌++◌, length, map}
use Rattle.std.proofs.Common.{Option, Some, None, Ok, Err, Ordering, Less, Equal, Greater, refl, sym, ap, subst, arith}
use Rattle.std.proofs.Common.{◌∙◌, inl, inr}
use Rattle.std.specs.Prelude.{◌&&◌, ◌||◌, codes, find, nat_le, option_and_then, option_map}
use Rattle.std.specs.BTreeSet.{insert_key}
use Rattle.std.specs.List.{AllPairs, Contains}
use Rattle.std.specs.Ordering.{is_eq}
use Rattle.std.proofs.lemmas.Bool.{cases_Bool, false≢true, or_cases, or_left}
use Rattle.std.proofs.lemmas.Bool.Decides.{nat_tests}
use Rattle.std.proofs.lemmas.List.{length-append}
use Rattle.std.proofs.lemmas.List.Elements.{Contains-append_cases, Contains-append_left, Contains-append_right}
use Rattle.vet_base.specs.Gives.{Told, found_or, refuse_if, ◌>>=◌}
use Rattle.vet_base.specs.declared.limits.TheConstants.{MOST_NODES, MOST_EDGES}
use Rattle.vet_base.specs.declared.refusal.Limit.TheVariants.{Edges}
use Rattle.vet_base.specs.declared.refusal.Refusal.TheVariants.{CsvRefused, TooLarge}
use Rattle.vet_demand.specs.DependencyRecord.{edge_record, edge_stated, field, has_five, is_word, node_record}
use Rattle.vet_demand.specs.DependencyRecord.{node_stated, numbered_cmp, read_number, record_stated}
use Rattle.vet_demand.specs.DependencyRecordLaws.{numbered_total}
use Rattle.vet_demand.specs.DependencyTable.{StatedValue, edge_told, is_stated, node_told, record_told, records_told}
use Rattle.vet_demand.specs.DependencyTable.{with_edge, with_record}
use Rattle.vet_demand.specs.Numbering.{edge_of, edges_in, node_of, nodes_in}
use Rattle.vet_demand.specs.Project.{edge_eq}
use Rattle.vet_demand.specs.ProjectLaws.{edge_eq-Decides}
use Rattle.vet_demand.specs.declared.dependency_record.DependencyRecord.{DependencyRecord}
use Rattle.vet_demand.specs.declared.dependency_record.DependencyRecord.TheVariants.{NodeRecord, EdgeRecord}
use Rattle.vet_demand.specs.declared.dependency_record.NumberedNode.{NumberedNode}
use Rattle.vet_demand.specs.declared.dependency_record.StatedEdge.{StatedEdge}
use Rattle.vet_demand.specs.declared.project.Edge.{Edge}
use Rattle.vet_demand.specs.declared.project.Node.{Node}
use Rattle.vet_demand.proofs.Lists.{in_none}
use Rattle.vet_base.proofs.ListLemmas.{Contains-cons_cases, Contains-later}
use Rattle.vet_base.proofs.SameKeys.{Rises, from_put, put_rises, to_put}
use Rattle.vet_demand.proofs.TableLemmas.{length_put, without_fault}

-- ---- a record's own number

-- the same with another number of the record
abbrev pub recounted : ℕ → DependencyRecord → DependencyRecord
recounted number (NodeRecord n) = NodeRecord n
recounted number (EdgeRecord s) = EdgeRecord (record { record_number = number; edge = s.edge })

node_recounted : (number : ℕ) (k : Option ℕ) (held : Option Node)
    → option_and_then (λ k. option_map (λ node. NodeRecord (record { number = k; node = node })) held) k
    ≡ option_map (recounted number)
    (option_and_then (λ k. option_map (λ node. NodeRecord (record { number = k; node = node })) held) k)
node_recounted number None held = refl
node_recounted number (Some k) None = refl
node_recounted number (Some k) (Some n) = refl

edge_recounted : (number : ℕ) (b : Bool) (edge : Option Edge)
    → cond b (option_map (λ edge. EdgeRecord (record { record_number = number; edge = edge })) edge) None
    ≡ option_map (recounted number)
    (cond b (option_map (λ edge. EdgeRecord (record { record_number = 0; edge = edge })) edge) None)
edge_recounted number true None = refl
edge_recounted number true (Some e) = refl
edge_recounted number false edge = refl

either_recounted : (number : ℕ) (b c : Bool) (one other first : Option DependencyRecord)
    → one ≡ option_map (recounted number) one
    → other ≡ option_map (recounted number) first → cond b one (cond c other None) ≡ option_map (recounted number)
    (cond b one (cond c first None))
either_recounted number true c one other first h g = h
either_recounted number false true one other first h g = g
either_recounted number false false one other first h g = refl

pub restated : (number : ℕ) (fields : List (List ℕ)) → record_stated number fields ≡ option_map (recounted number)
    (record_stated 0 fields)
restated number fields =
    either_recounted number (has_five fields && is_word fields 0 (codes "node")) (has_five fields
    && is_word fields 0 (codes "edge"))
    (node_record fields) (edge_record number fields) (edge_record 0 fields)
    (node_recounted number (read_number (field fields 1)) (node_stated fields))
    (edge_recounted number (is_word fields 4 []) (edge_stated fields))

-- ---- edges, each once

abbrev pub edges_of : List StatedEdge → List Edge
edges_of = map (λ s. s.edge)

edge_found : (edges : List StatedEdge) (e : Edge) → is_stated edges e ≡ true → Contains (edges_of edges) e
edge_found [] e h = cc h
edge_found (s ∷ rest) e h = elim (or_cases (edge_eq s.edge e) (is_stated rest e) h) [
  | inl here ↦ (0, omega arith, (edge_eq-Decides s.edge e).0 here)
  | inr there ↦ Contains-later s.edge e (edges_of rest) (edge_found rest e there)
]

pub edge_absent : (edges : List StatedEdge) (e : Edge) → is_stated edges e ≡ false → Contains (edges_of edges) e → ⊥
edge_absent [] e h held = in_none e held
edge_absent (s ∷ rest) e h held = elim (Contains-cons_cases s.edge (edges_of rest) e held) [
  | inl here ↦ false≢true (sym h ∙ or_left (edge_eq s.edge e) (is_stated rest e) ((edge_eq-Decides s.edge e).1 here))
  | inr there ↦ edge_absent rest e (not_right (edge_eq s.edge e) (is_stated rest e) h) there
]
  where
    not_right : (a b : Bool) → (a || b) ≡ false → b ≡ false
    not_right true b h = cc h
    not_right false b h = h

pub edges_append : (xs : List StatedEdge) (s : StatedEdge) → edges_of (xs ++ s ∷ []) ≡ edges_of xs ++ s.edge ∷ []
edges_append [] s = refl
edges_append (x ∷ xs) s = ap (λ (es : List Edge). x.edge ∷ es) (edges_append xs s)

-- an edge more is there or was
pub from_with : (edges : List StatedEdge) (s : StatedEdge) (e : Edge) → Contains (edges_of (with_edge edges s)) e
    → (s.edge ≡ e) ⊎ Contains (edges_of edges) e
from_with edges s e held = elim (cases_Bool (is_stated edges s.edge)) [
  | inl old ↦ inr (rw old at held)
  | inr new ↦ elim (Contains-append_cases (edges_of edges) (s.edge ∷ []) e
      (subst (λ es. Contains es e) (edges_append edges s) (rw new at held))) [
        | inl before ↦ inr before
        | inr last ↦ elim (Contains-cons_cases s.edge [] e last) [
          | inl here ↦ inl here
          | inr none ↦ in_none e none
        ]
      ]
]

to_with : (edges : List StatedEdge) (s : StatedEdge) (e : Edge) → (s.edge ≡ e) ⊎ Contains (edges_of edges) e
    → Contains (edges_of (with_edge edges s)) e
to_with edges s e h = elim (cases_Bool (is_stated edges s.edge)) [
  | inl old ↦ rw old (among old h)
  | inr new ↦ rw new (subst (λ es. Contains es e) (sym (edges_append edges s)) (beside h))
]
  where
    among : is_stated edges s.edge ≡ true → (s.edge ≡ e) ⊎ Contains (edges_of edges) e → Contains (edges_of edges) e
    among old (inl here) = subst (Contains (edges_of edges)) here (edge_found edges s.edge old)
    among old (inr held) = held

    beside : (s.edge ≡ e) ⊎ Contains (edges_of edges) e → Contains (edges_of edges ++ s.edge ∷ []) e
    beside (inl here) = Contains-append_right (edges_of edges) (s.edge ∷ []) e (0, omega arith, here)
    beside (inr held) = Contains-append_left (edges_of edges) (s.edge ∷ []) e held

few_with : (edges : List StatedEdge) (s : StatedEdge) → edge_told edges s ≡ Ok (tt {0}) → length edges ≤ MOST_EDGES
    → length (with_edge edges s) ≤ MOST_EDGES
few_with edges s told few = elim (cases_Bool (is_stated edges s.edge)) [
  | inl old ↦ rw old few
  | inr new ↦ rw new (below (nat_le MOST_EDGES (length edges)) refl (rw new at told))
]
  where
    below : (b : Bool) → nat_le MOST_EDGES (length edges) ≡ b → refuse_if (true && b) (TooLarge Edges) ≡ Ok (tt {0})
        → length (edges ++ s ∷ []) ≤ MOST_EDGES
    below true e h = cc h
    below false e h = (let less : length edges < MOST_EDGES = grind (arith, nat_tests, e) in
        omega (arith, less, length-append edges (s ∷ [])))

-- ---- nodes

-- none that is there ties with a node that was not found
none_ties : (nodes : List NumberedNode) (n : NumberedNode) → find (λ m. is_eq (numbered_cmp n m)) nodes ≡ None
    → (m : NumberedNode) → Contains nodes m → numbered_cmp n m ≡ Equal → ⊥
none_ties [] n h m held tie = in_none m held
none_ties (x ∷ rest) n h m held tie = elim (Contains-cons_cases x rest m held) [
  | inl here ↦ found (numbered_cmp n x) (ap (numbered_cmp n) here ∙ tie) h
  | inr there ↦ none_ties rest n (passed (is_eq (numbered_cmp n x)) h) m there tie
]
  where
    found : (r : Ordering) → r ≡ Equal → cond (is_eq r) (Some x) (find (λ m. is_eq (numbered_cmp n m)) rest) ≡ None → ⊥
    found Less e g = cc e
    found Equal e g = cc g
    found Greater e g = cc e

    passed : (b : Bool) → cond b (Some x) (find (λ m. is_eq (numbered_cmp n m)) rest) ≡ None
        → find (λ m. is_eq (numbered_cmp n m)) rest ≡ None
    passed true g = cc g
    passed false g = g

-- ---- what is stated of nodes and edges more

pub record Adds (s : StatedValue) (nodes : List NumberedNode) (edges : List Edge) (t : StatedValue) : Type 0 where
  pub nodes_from : (m : NumberedNode) → Contains t.nodes m → Contains s.nodes m ⊎ Contains nodes m
  pub nodes_to : (m : NumberedNode) → Contains s.nodes m ⊎ Contains nodes m → Contains t.nodes m
  pub edges_from : (e : Edge) → Contains (edges_of t.edges) e → Contains (edges_of s.edges) e ⊎ Contains edges e
  pub edges_to : (e : Edge) → Contains (edges_of s.edges) e ⊎ Contains edges e → Contains (edges_of t.edges) e
  pub rises : AllPairs (Rises numbered_cmp numbered_total) s.nodes
      → AllPairs (Rises numbered_cmp numbered_total) t.nodes
  pub many : length t.nodes ≡ length s.nodes + length nodes
  pub few_nodes : length s.nodes ≤ MOST_NODES → length t.nodes ≤ MOST_NODES
  pub few_edges : length s.edges ≤ MOST_EDGES → length t.edges ≤ MOST_EDGES

pub left_alone : {X : Type 0} {P : Type 0} (y : X) → P ⊎ Contains [] y → P
left_alone y (inl h) = h
left_alone y (inr none) = in_none y none

Adds-none : (s : StatedValue) → Adds s [] [] s
Adds-none s = record {
  nodes_from = λ m held. inl held;
  nodes_to = λ m h. left_alone m h;
  edges_from = λ e held. inl held;
  edges_to = λ e h. left_alone e h;
  rises = λ up. up;
  many = omega arith;
  few_nodes = λ few. few;
  few_edges = λ few. few;
}

-- where one more is held, each was held or is one of it and the rest
pub from_put_or : (held : List NumberedNode) (n : NumberedNode) (nodes : List NumberedNode) (m : NumberedNode)
    → Contains (insert_key numbered_cmp held n) m ⊎ Contains nodes m → Contains held m ⊎ Contains (n ∷ nodes) m
from_put_or held n nodes m (inr there) = inr (Contains-later n m nodes there)
from_put_or held n nodes m (inl there) = elim (from_put numbered_cmp numbered_total held n m there) [
  | inl here ↦ inr (0, omega arith, here)
  | inr before ↦ inl before
]

Adds-node : (k : ℕ) (s : StatedValue) (n : NumberedNode) (nodes : List NumberedNode) (edges : List Edge)
    (t : StatedValue) → node_told k s.nodes n ≡ Ok (tt {0})
    → Adds (record { nodes = insert_key numbered_cmp s.nodes n; edges = s.edges }) nodes edges t
    → Adds s (n ∷ nodes) edges t
Adds-node k s n nodes edges t told more =
    let (own, new, few) = without_fault k s.nodes n told in
    let long = length_put n s.nodes new in
    record {
      nodes_from = λ m held. from_put_or s.nodes n nodes m (more.nodes_from m held);
      nodes_to = λ m h. more.nodes_to m (to new m h);
      edges_from = more.edges_from;
      edges_to = more.edges_to;
      rises = λ up. more.rises (put_rises numbered_cmp numbered_total s.nodes n up);
      many = (let sum = more.many in omega (arith, sum, long));
      few_nodes = λ _. more.few_nodes (omega (arith, long, few));
      few_edges = more.few_edges;
    }
  where
    put : find (λ m. is_eq (numbered_cmp n m)) s.nodes ≡ None → (m : NumberedNode) → (n ≡ m) ⊎ Contains s.nodes m
        → Contains (insert_key numbered_cmp s.nodes n) m
    put new = to_put numbered_cmp numbered_total s.nodes n (λ y held tie. absurd (none_ties s.nodes n new y held tie))

    to : find (λ m. is_eq (numbered_cmp n m)) s.nodes ≡ None → (m : NumberedNode) → Contains s.nodes m
        ⊎ Contains (n ∷ nodes) m
        → Contains (insert_key numbered_cmp s.nodes n) m ⊎ Contains nodes m
    to new m (inl held) = inl (put new m (inr held))
    to new m (inr held) = elim (Contains-cons_cases n nodes m held) [
      | inl here ↦ inl (put new m (inl here))
      | inr there ↦ inr there
    ]

Adds-edge : (s : StatedValue) (e : StatedEdge) (nodes : List NumberedNode) (edges : List Edge) (t : StatedValue)
    → edge_told s.edges e ≡ Ok (tt {0})
    → Adds (record { nodes = s.nodes; edges = with_edge s.edges e }) nodes edges t → Adds s nodes (e.edge ∷ edges) t
Adds-edge s e nodes edges t told more = record {
  nodes_from = more.nodes_from;
  nodes_to = more.nodes_to;
  edges_from = λ f held. from f (more.edges_from f held);
  edges_to = λ f h. more.edges_to f (to f h);
  rises = more.rises;
  many = more.many;
  few_nodes = more.few_nodes;
  few_edges = λ few. more.few_edges (few_with s.edges e told few);
}
  where
    from : (f : Edge) → Contains (edges_of (with_edge s.edges e)) f ⊎ Contains edges f
        → Contains (edges_of s.edges) f ⊎ Contains (e.edge ∷ edges) f
    from f (inr held) = inr (Contains-later e.edge f edges held)
    from f (inl held) = elim (from_with s.edges e f held) [
      | inl here ↦ inr (0, omega arith, here)
      | inr before ↦ inl before
    ]

    to : (f : Edge) → Contains (edges_of s.edges) f ⊎ Contains (e.edge ∷ edges) f
        → Contains (edges_of (with_edge s.edges e)) f ⊎ Contains edges f
    to f (inl held) = inl (to_with s.edges e f (inr held))
    to f (inr held) = elim (Contains-cons_cases e.edge edges f held) [
      | inl here ↦ inl (to_with s.edges e f (inl here))
      | inr there ↦ inr there
    ]

-- ---- what records add

-- what is told after a fault or none
after_told : (w : Told (Unit {0})) (more t : StatedValue) (f : StatedValue → Told StatedValue)
    → ((w >>= (λ _. Ok more)) >>= f) ≡ Ok t
    → (w ≡ Ok (tt {0})) × (f more ≡ Ok t)
after_told (Ok x) more t f h = (refl, h)
after_told (Err x) more t f h = cc h

pub read_adds : (k : ℕ) (s : StatedValue) (rows : List (List (List ℕ))) (t : StatedValue)
    → records_told k s rows ≡ Ok t → Adds s (nodes_in rows) (edges_in rows) t
read_adds k s [] t h = (let same : s ≡ t = cc h in subst (λ (v : StatedValue). Adds s [] [] v) same (Adds-none s))
read_adds k s (fields ∷ rows) t h = step (record_stated 0 fields) (λ more. read_adds (k + 1) more rows t)
    (ap told (sym (restated k fields)) ∙ h)
  where
    told : Option DependencyRecord → Told StatedValue
    told o = found_or (CsvRefused k) o >>= (λ found. record_told k s found >>= (λ _. Ok (with_record s found)))
        >>= (λ more. records_told (k + 1) more rows)

    step : (o : Option DependencyRecord) → ((more : StatedValue) → records_told (k + 1) more rows ≡ Ok t
        → Adds more (nodes_in rows) (edges_in rows) t)
        → told (option_map (recounted k) o) ≡ Ok t → Adds s (node_of o ++ nodes_in rows) (edge_of o ++ edges_in rows) t
    step None adds e = cc e
    step (Some (NodeRecord n)) adds e =
        let more : StatedValue = record { nodes = insert_key numbered_cmp s.nodes n; edges = s.edges } in
        let (fine, rest) = after_told (node_told k s.nodes n) more t (λ v. records_told (k + 1) v rows) e in
        Adds-node k s n (nodes_in rows) (edges_in rows) t fine (adds more rest)
    step (Some (EdgeRecord f)) adds e =
        let g : StatedEdge = record { record_number = k; edge = f.edge } in
        let more : StatedValue = record { nodes = s.nodes; edges = with_edge s.edges g } in
        let (fine, rest) = after_told (edge_told s.edges g) more t (λ v. records_told (k + 1) v rows) e in
        Adds-edge s g (nodes_in rows) (edges_in rows) t fine (adds more rest)
