-- The law of numbering: what the other records state is the project of the first.
use Rattle.std.proofs.Common.{◌≡◌, ◌<◌, ◌⊎◌, ℕ, Bool, true, false, List, [], ◌∷◌, length, map, Option, Some, Ok, Err}
use Rattle.std.proofs.Common.{Equal, refl, sym, ap, subst, arith, ◌∙◌, inl, inr}
use Rattle.std.specs.Prelude.{◌==◌, not}
use Rattle.std.specs.List.{AllPairs, Contains}
use Rattle.std.proofs.lemmas.Option.{same_Some}
use Rattle.std.proofs.lemmas.List.{length-map}
use Rattle.std.proofs.lemmas.List.Elements.{All-nil}
use Rattle.std.proofs.lemmas.List.Sorted.{Contains-permutation, IsPermutation-sym, length_permutation}
use Rattle.vet_base.specs.Gives.{Told, refuse_if, ◌>>=◌}
use Rattle.vet_base.specs.declared.refusal.Refusal.TheVariants.{CsvRefused}
use Rattle.vet_demand.specs.DependencyRecord.{is_header, numbered_cmp}
use Rattle.vet_demand.specs.DependencyRecordLaws.{numbered_total}
use Rattle.vet_demand.specs.DependencyTable.{StatedValue, edges_told, in_edge_order, nothing_stated, place_of, placed}
use Rattle.vet_demand.specs.DependencyTable.{placed_told, project_told, records_told, stated_told}
use Rattle.vet_demand.specs.Numbering.{AreRenumbered, edges_in, nodes_in, renamed, renumbered}
use Rattle.vet_demand.specs.Project.{ProjectValue}
use Rattle.vet_demand.specs.declared.dependency_record.NumberedNode.{NumberedNode}
use Rattle.vet_demand.specs.declared.dependency_record.StatedEdge.{StatedEdge}
use Rattle.vet_demand.specs.declared.project.Edge.{Edge}
use Rattle.vet_demand.specs.declared.project.Node.{Node}
use Rattle.vet_demand.proofs.Lists.{in_none}
use Rattle.vet_demand.proofs.PlacingLemmas.{in_order_told}
use Rattle.vet_demand.proofs.ReadOn.{Awaits, length-edges, reads_on}
use Rattle.vet_demand.proofs.ReadParts.{Adds, edges_of, read_adds}
use Rattle.vet_demand.proofs.Renumbered.{all_placed, from_map, in_map, no_pairs, placed_edges, renumbered_rise}
use Rattle.vet_demand.proofs.Renumbered.{same_nodes, same_order, same_placed, tied_same}
use Rattle.vet_base.proofs.SameKeys.{Rises, same_keys}

-- ---- what tables state

table_parts : (b : Bool) (told : Told StatedValue) (p : ProjectValue)
    → ((refuse_if (not b) (CsvRefused 1) >>= (λ _. told)) >>= stated_told) ≡ Ok p
    → (b ≡ true) × (s : StatedValue) × (told ≡ Ok s) × (stated_told s ≡ Ok p)
table_parts false told p h = cc h
table_parts true (Err e) p h = cc h
table_parts true (Ok s) p h = (refl, s, refl, h)

-- the parts of a project that is told of what was stated
project_parts : (b : Bool) (t : Told (List Edge)) (nodes : List Node) (p : ProjectValue)
    → (refuse_if b (CsvRefused 2) >>= (λ _. t)
    >>= (λ edges. Ok (let q : ProjectValue = record { nodes = nodes; edges = edges } in q))) ≡ Ok p
    → (b ≡ false) × (edges : List Edge) × (t ≡ Ok edges) × (record { nodes = nodes; edges = edges } ≡ p)
project_parts true t nodes p h = cc h
project_parts false (Err e) nodes p h = cc h
project_parts false (Ok edges) nodes p h = (refl, edges, refl, (cc h))

-- ---- the other records are read

module _ (rename : ℕ → ℕ) (rows others : List (List (List ℕ))) (same : AreRenumbered rename rows others)
    (s : StatedValue) (adds : Adds nothing_stated (nodes_in rows) (edges_in rows) s) where
  abbrev newly : List NumberedNode
  newly = map (renumbered rename) s.nodes

  abbrev known : List Edge
  known = map (renamed rename) (edges_of s.edges)

  rising : AllPairs (Rises numbered_cmp numbered_total) s.nodes
  rising = adds.rises (no_pairs (Rises numbered_cmp numbered_total))

  -- each node of the others is one of the first, renumbered
  node_there : (m : NumberedNode) → Contains (nodes_in others) m → (k : NumberedNode) × Contains s.nodes k
      × (renumbered rename k ≡ m)
  node_there m held =
      let (k, first, new) = from_map (renumbered rename) (nodes_in rows) m
      (Contains-permutation (nodes_in others) (map (renumbered rename) (nodes_in rows)) m
      (IsPermutation-sym (map (renumbered rename) (nodes_in rows)) (nodes_in others) same.nodes) held) in
      (k, adds.nodes_to k (inr first), new)

  node_back : (k : NumberedNode) → Contains s.nodes k → Contains (nodes_in others) (renumbered rename k)
  node_back k held =
      Contains-permutation (map (renumbered rename) (nodes_in rows)) (nodes_in others) (renumbered rename k) same.nodes
      (in_map (renumbered rename) (nodes_in rows) k (only k (adds.nodes_from k held)))
    where
      only : (k : NumberedNode) → Contains [] k ⊎ Contains (nodes_in rows) k → Contains (nodes_in rows) k
      only k (inl none) = in_none k none
      only k (inr first) = first

  edge_there : (e : Edge) → Contains (edges_in others) e → Contains known e
  edge_there e held =
      let (f, first, new) = from_map (renamed rename) (edges_in rows) e ((same.edges e).1 held) in
      subst (Contains known) new (in_map (renamed rename) (edges_of s.edges) f (adds.edges_to f (inr first)))

  edge_back : (e : Edge) → Contains known e → Contains (edges_in others) e
  edge_back e held =
      let (f, first, new) = from_map (renamed rename) (edges_of s.edges) e held in
      (same.edges e).0 (subst (Contains (map (renamed rename) (edges_in rows))) new
      (in_map (renamed rename) (edges_in rows) f (only f (adds.edges_from f first))))
    where
      only : (f : Edge) → Contains [] f ⊎ Contains (edges_in rows) f → Contains (edges_in rows) f
      only f (inl none) = in_none f none
      only f (inr first) = first

  -- two that tie have one number
  one_number : (m n : NumberedNode) → Contains [] m ⊎ Contains (nodes_in others) m → Contains (nodes_in others) n
      → numbered_cmp n m ≡ Equal → m.number ≡ n.number
  one_number m n (inl none) second tie = in_none m none
  one_number m n (inr first) second tie =
      let (k, k_held, k_new) = node_there m first in
      let (l, l_held, l_new) = node_there n second in
      let tied : numbered_cmp l k ≡ Equal = ap (λ (o : NumberedNode). numbered_cmp o (renumbered rename k)) l_new
      ∙ ap (numbered_cmp n) k_new ∙ tie in
      let one = tied_same numbered_cmp numbered_total s.nodes rising l k l_held k_held tied in
      ap (λ (o : NumberedNode). o.number) (sym k_new ∙ ap (renumbered rename) (sym one) ∙ l_new)

  awaits : Awaits nothing_stated (nodes_in others) (edges_in others) known
  awaits =
      let many = adds.many in
      let few = adds.few_nodes (omega arith) in
      let few_edges = adds.few_edges (omega arith) in
      let long = length_permutation (map (renumbered rename) (nodes_in rows)) (nodes_in others) same.nodes in
      let mapped = length-map (nodes_in rows) (renumbered rename) in
      let edges = length-map (edges_of s.edges) (renamed rename) in
      let stated = length-edges s.edges in
      record {
        counted = λ i d l. (let number = same.counted i d l in omega (arith, number));
        lower = All-nil (λ m. m.number < 0);
        apart = one_number;
        few = omega (arith, many, few, long, mapped);
        once = no_pairs (λ a b. a ≡ b → ⊥);
        stated_known = λ e held. in_none e held;
        all_known = edge_there;
        few_known = omega (arith, edges, stated, few_edges);
      }

  -- ---- what they state

  module _ (t : StatedValue) (more : Adds nothing_stated (nodes_in others) (edges_in others) t) where
    nodes_newly : t.nodes ≡ newly
    nodes_newly =
        same_keys numbered_cmp numbered_total t.nodes newly
        (more.rises (no_pairs (Rises numbered_cmp numbered_total))) (renumbered_rise rename s.nodes rising)
        (λ m held. there m (more.nodes_from m held)) back
      where
        there : (m : NumberedNode) → Contains [] m ⊎ Contains (nodes_in others) m → Contains newly m
        there m (inl none) = in_none m none
        there m (inr held) = (let (k, first, new) = node_there m held in
            subst (Contains newly) new (in_map (renumbered rename) s.nodes k first))

        back : (m : NumberedNode) → Contains newly m → Contains t.nodes m
        back m held =
            let (k, first, new) = from_map (renumbered rename) s.nodes m held in
            more.nodes_to m (inr (subst (Contains (nodes_in others)) new (node_back k first)))

    stated_there : (e : Edge) → Contains (edges_of t.edges) e → Contains known e
    stated_there e held = step (more.edges_from e held)
      where
        step : Contains [] e ⊎ Contains (edges_in others) e → Contains known e
        step (inl none) = in_none e none
        step (inr first) = edge_there e first

    stated_back : (e : Edge) → Contains known e → Contains (edges_of t.edges) e
    stated_back e held = more.edges_to e (inr (edge_back e held))

    -- ---- the same project

    abbrev place : ℕ → Option ℕ
    place = place_of s.nodes

    abbrev new_place : ℕ → Option ℕ
    new_place = place_of newly

    -- each edge is placed as the one of which it is made
    placed_alike : (between : List Edge) → placed_told place s.edges ≡ Ok between → (e : Edge)
        → Contains (edges_of t.edges) e
        → (q : Edge) × (placed new_place e ≡ Some q) × Contains between q
    placed_alike between h e held =
        let (f, first, new) = from_map (renamed rename) (edges_of s.edges) e (stated_there e held) in
        let (q, at, among) = (placed_edges place s.edges between h).each f first in
        (q, ap (placed new_place) (sym new) ∙ same_placed rename same.apart s.nodes f ∙ at, among)

    edges_alike : (between : List Edge) → placed_told place s.edges ≡ Ok between
        → edges_told new_place t.edges ≡ Ok (in_edge_order between)
    edges_alike between h =
        let (newer, placed_newer) =
        all_placed new_place t.edges (λ e held. (let (q, at, among) = placed_alike between h e held in (q, at))) in
        ap (λ (w : Told (List Edge)). w >>= (λ es. Ok (in_edge_order es))) placed_newer
        ∙ ap (λ (es : List Edge). Ok es) (same_order newer between (there newer placed_newer) (back newer placed_newer))
      where
        there : (newer : List Edge) → placed_told new_place t.edges ≡ Ok newer → (q : Edge) → Contains newer q
            → Contains between q
        there newer placed_newer q held =
            let (e, e_held, at) = (placed_edges new_place t.edges newer placed_newer).only q held in
            let (r, r_at, among) = placed_alike between h e e_held in
            subst (Contains between) (same_Some r q (sym r_at ∙ at)) among

        back : (newer : List Edge) → placed_told new_place t.edges ≡ Ok newer → (q : Edge) → Contains between q
            → Contains newer q
        back newer placed_newer q held =
            let (f, first, at) = (placed_edges place s.edges between h).only q held in
            let (r, r_at, among) = (placed_edges new_place t.edges newer placed_newer).each (renamed rename f)
            (stated_back (renamed rename f) (in_map (renamed rename) (edges_of s.edges) f first)) in
            subst (Contains newer) (same_Some r q (sym r_at ∙ same_placed rename same.apart s.nodes f ∙ at)) among

    same_project : (p : ProjectValue) → stated_told s ≡ Ok p → stated_told t ≡ Ok p
    same_project p h =
        let (some, edges, told, is) = project_parts (length s.nodes == 0) (edges_told place s.edges)
        (map (λ n. n.node) s.nodes) p h in
        let (between, placed_s, order) = in_order_told (placed_told place s.edges) edges told in
        let alike = edges_alike between placed_s ∙ ap (λ (es : List Edge). Ok es) order in
        let long : (length newly == 0) ≡ false = ap (λ (k : ℕ). k == 0) (length-map s.nodes (renumbered rename))
        ∙ some in
        let nodes = same_nodes rename s.nodes in
        let done : finish newly t.edges ≡ made (map (λ n. n.node) s.nodes) edges =
        λ i. refuse_if (long i) (CsvRefused 2) >>= (λ _. alike i) >>= (λ es. made (nodes i) es) in
        ap (λ (ns : List NumberedNode). finish ns t.edges) nodes_newly ∙ done ∙ ap (λ (q : ProjectValue). Ok q) is
      where
        made : List Node → List Edge → Told ProjectValue
        made nodes edges = Ok (record { nodes = nodes; edges = edges })

        finish : List NumberedNode → List StatedEdge → Told ProjectValue
        finish nodes edges = stated_told (record { nodes = nodes; edges = edges })

-- tables that differ in numbering alone state one project
pub numbering_free : (rename : ℕ → ℕ) (header : List (List ℕ)) (rows others : List (List (List ℕ)))
    (p : ProjectValue) → AreRenumbered rename rows others
    → project_told (header ∷ rows) ≡ Ok p → project_told (header ∷ others) ≡ Ok p
numbering_free rename header rows others p same h =
    let (head, s, told, project) = table_parts (is_header header) (records_told 2 nothing_stated rows) p h in
    let adds = read_adds 2 nothing_stated rows s told in
    let (t, told_t) = reads_on 2 nothing_stated others (map (renamed rename) (edges_of s.edges)) same.formed
    (awaits rename rows others same s adds) in
    let more = read_adds 2 nothing_stated others t told_t in
    let table : (refuse_if (not (is_header header)) (CsvRefused 1) >>= (λ _. records_told 2 nothing_stated others))
    ≡ Ok t =
    ap (λ (b : Bool). refuse_if (not b) (CsvRefused 1) >>= (λ _. records_told 2 nothing_stated others)) head ∙ told_t in
    ap (λ (w : Told StatedValue). w >>= stated_told) table
    ∙ same_project rename rows others same s adds t more p project
