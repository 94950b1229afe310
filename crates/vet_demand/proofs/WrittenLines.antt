-- What is written of nodes and edges, one after another.
use Rattle.std.proofs.Common.{◌≡◌, ◌<◌, ◌≤◌, ◌+◌, ℕ, List, ◌++◌, ◌∷◌, drop, drop-cons, add-one, get_or, length, map}
use Rattle.std.proofs.Common.{sym, ap, subst, arith, ◌∙◌, append_assoc, append-nil}
use Rattle.std.proofs.lemmas.List.{drop_all, get_or_default}
use Rattle.std.proofs.lemmas.Grind.{flat_map-append}
use native.Mathlib.Decide.{dec_lt}
use Rattle.vet_demand.specs.Project.{ProjectValue}
use Rattle.vet_demand.specs.WrittenProject.{IsNamed, edge_fields, header_record, line, lines, node_fields, node_records}
use Rattle.vet_demand.specs.WrittenProject.{written_text}
use Rattle.vet_demand.specs.declared.project.Edge.{Edge}
use Rattle.vet_demand.specs.declared.project.Node.{Node}

-- one edge more
pub edge_written : (old text new : List ℕ) (edges : List Edge) (at : ℕ) (e : Edge) → at < length edges
    → text ++ lines (map edge_fields (drop at edges)) ≡ old ++ lines (map edge_fields edges)
    → new ≡ text ++ line (edge_fields (get_or edges at e))
    → new ++ lines (map edge_fields (drop (at + 1) edges)) ≡ old ++ lines (map edge_fields edges)
edge_written old text new edges at e within was one =
    let next : drop at edges ≡ get_or edges at e ∷ drop (at + 1) edges = rw (add-one) (drop-cons edges at e within) in
    ap (λ (t : List ℕ). t ++ lines (map edge_fields (drop (at + 1) edges))) one
    ∙ append_assoc text (line (edge_fields (get_or edges at e))) (lines (map edge_fields (drop (at + 1) edges)))
    ∙ ap (λ (es : List Edge). text ++ lines (map edge_fields es)) (sym next) ∙ was

-- all edges
pub edges_written : (old text : List ℕ) (edges : List Edge) (at : ℕ) → length edges ≤ at
    → text ++ lines (map edge_fields (drop at edges)) ≡ old ++ lines (map edge_fields edges)
    → text ≡ old ++ lines (map edge_fields edges)
edges_written old text edges at all was =
    sym (append-nil text) ∙ ap (λ (es : List Edge). text ++ lines (map edge_fields es))
    (sym (drop_all at edges all)) ∙ was

-- one node more
pub node_written : (old text new : List ℕ) (nodes : List Node) (at : ℕ) (n : Node) → at < length nodes
    → text ++ lines (node_records at (drop at nodes)) ≡ old ++ lines (node_records 0 nodes)
    → new ≡ text ++ line (node_fields at (get_or nodes at n))
    → new ++ lines (node_records (at + 1) (drop (at + 1) nodes)) ≡ old ++ lines (node_records 0 nodes)
node_written old text new nodes at n within was one =
    let next : drop at nodes ≡ get_or nodes at n ∷ drop (at + 1) nodes = rw (add-one) (drop-cons nodes at n within) in
    ap (λ (t : List ℕ). t ++ lines (node_records (at + 1) (drop (at + 1) nodes))) one
    ∙ append_assoc text (line (node_fields at (get_or nodes at n)))
    (lines (node_records (at + 1) (drop (at + 1) nodes)))
    ∙ ap (λ (ns : List Node). text ++ lines (node_records at ns)) (sym next) ∙ was

-- all nodes
pub nodes_written : (old text : List ℕ) (nodes : List Node) (at : ℕ) → length nodes ≤ at
    → text ++ lines (node_records at (drop at nodes)) ≡ old ++ lines (node_records 0 nodes)
    → text ≡ old ++ lines (node_records 0 nodes)
nodes_written old text nodes at all was =
    sym (append-nil text) ∙ ap (λ (ns : List Node). text ++ lines (node_records at ns))
    (sym (drop_all at nodes all)) ∙ was

-- the nodes so far are named, and the next
pub next_named : (nodes : List Node) (at : ℕ) (n : Node)
    → ((k : ℕ) (d : Node) → k < at → IsNamed (get_or nodes k d)) → IsNamed (get_or nodes at n)
    → at < length nodes → (k : ℕ) (d : Node) → k < at + 1 → IsNamed (get_or nodes k d)
next_named nodes at n so_far next within k d below = elim (dec_lt k at) [
  | yes before ↦ so_far k d before
  | no after ↦
      let same : k ≡ at = omega arith in
      subst (λ (j : ℕ). IsNamed (get_or nodes j d)) (sym same) (subst IsNamed (get_or_default nodes at n d within) next)
]

-- the header, the nodes and the edges are the whole text
pub all_written : (p : ProjectValue) (first second third : List ℕ) → first ≡ line header_record
    → second ≡ first ++ lines (node_records 0 p.nodes)
    → third ≡ second ++ lines (map edge_fields p.edges) → third ≡ written_text p
all_written p first second third header nodes edges =
    edges
    ∙ ap (λ (t : List ℕ). t ++ lines (map edge_fields p.edges))
    (nodes ∙ ap (λ (t : List ℕ). t ++ lines (node_records 0 p.nodes)) header)
    ∙ append_assoc (line header_record) (lines (node_records 0 p.nodes)) (lines (map edge_fields p.edges))
    ∙ ap (λ (t : List ℕ). line header_record ++ t)
    (sym (flat_map-append line (node_records 0 p.nodes) (map edge_fields p.edges)))
