-- Records that fit what was stated before them are read without a fault.
use Rattle.std.proofs.Common.{◌≡◌, ◌≢◌, ◌<◌, ◌≤◌, ◌⊎◌, ◌+◌, ℕ, suc, false, cond, List, [], ◌∷◌, ◌++◌, length, get_or}
use Rattle.std.proofs.Common.{Option, Some, None, Ok, Ordering, Less, Equal, Greater, refl, ap, subst, arith, ◌∙◌, inl}
use Rattle.std.proofs.Common.{inr}
use Rattle.std.specs.Prelude.{IsSome, find, nat_le, option_map}
use Rattle.std.specs.BTreeSet.{insert_key}
use Rattle.std.specs.Cmp.{decided}
use Rattle.std.specs.List.{All, AllPairs, Contains}
use Rattle.std.specs.Ordering.{is_eq}
use Rattle.std.proofs.lemmas.Bool.{cases_Bool}
use Rattle.std.proofs.lemmas.Bool.Decides.{nat_tests}
use Rattle.std.proofs.lemmas.List.{length-append}
use Rattle.std.proofs.lemmas.List.Elements.{All-contains, All-head, All-tail, Contains-get_or}
use Rattle.std.proofs.lemmas.List.Quantifiers.{all_pairs_push}
use Rattle.std.proofs.lemmas.Map.Made.{IsDistinct-from_AllPairs, is_member-Decides, length-le_from_is_member}
use Rattle.std.proofs.lemmas.Map.Views.{All-insert_key}
use Rattle.vet_base.specs.Gives.{Told, found_or, ◌>>=◌}
use Rattle.vet_base.specs.declared.limits.TheConstants.{MOST_NODES, MOST_EDGES}
use Rattle.vet_base.specs.declared.refusal.Refusal.TheVariants.{CsvRefused}
use Rattle.vet_demand.specs.DependencyRecord.{numbered_cmp, record_stated}
use Rattle.vet_demand.specs.DependencyRecordLaws.{numbered_total}
use Rattle.vet_demand.specs.DependencyTable.{StatedValue, edge_told, is_stated, node_told, record_told, records_told}
use Rattle.vet_demand.specs.DependencyTable.{with_edge, with_record}
use Rattle.vet_demand.specs.Numbering.{edge_of, edges_in, node_of, nodes_in}
use Rattle.vet_demand.specs.Project.{edge_eq}
use Rattle.vet_demand.specs.ProjectLaws.{edge_eq-Decides}
use Rattle.vet_demand.specs.declared.dependency_record.DependencyRecord.{DependencyRecord}
use Rattle.vet_demand.specs.declared.dependency_record.DependencyRecord.TheVariants.{NodeRecord, EdgeRecord}
use Rattle.vet_demand.specs.declared.dependency_record.NumberedNode.{NumberedNode}
use Rattle.vet_demand.specs.declared.dependency_record.StatedEdge.{StatedEdge}
use Rattle.vet_demand.specs.declared.project.Edge.{Edge}
use Rattle.vet_base.proofs.ListLemmas.{Contains-here, Contains-later}
use Rattle.vet_demand.proofs.ReadParts.{edge_absent, edges_append, edges_of, from_put_or, from_with, recounted}
use Rattle.vet_demand.proofs.ReadParts.{restated}
use Rattle.vet_demand.proofs.TableLemmas.{length_put}
use Rattle.vet_demand.proofs.WrittenTable.{node_told_ok}

abbrev Differ : Edge → Edge → Type 0
Differ a b = a ≢ b

-- These nodes and edges fit what is stated. Each node has its number and ties with no other, and all edges are known.
pub record Awaits (s : StatedValue) (nodes : List NumberedNode) (edges known : List Edge) : Type 0 where
  pub counted : (i : ℕ) (d : NumberedNode) → i < length nodes → (get_or nodes i d).number ≡ length s.nodes + i
  pub lower : All (λ m. m.number < length s.nodes) s.nodes
  pub apart : (m n : NumberedNode) → Contains s.nodes m ⊎ Contains nodes m → Contains nodes n
      → numbered_cmp n m ≡ Equal → m.number ≡ n.number
  pub few : length s.nodes + length nodes ≤ MOST_NODES
  pub once : AllPairs Differ (edges_of s.edges)
  pub stated_known : (e : Edge) → Contains (edges_of s.edges) e → Contains known e
  pub all_known : (e : Edge) → Contains edges e → Contains known e
  pub few_known : length known ≤ MOST_EDGES

-- ---- a node

none_found : (nodes : List NumberedNode) (n : NumberedNode)
    → ((m : NumberedNode) → Contains nodes m → numbered_cmp n m ≡ Equal → ⊥)
    → find (λ m. is_eq (numbered_cmp n m)) nodes ≡ None
none_found [] n h = refl
none_found (x ∷ rest) n h = step (numbered_cmp n x) refl
    (none_found rest n (λ m held. h m (Contains-later x m rest held)))
  where
    step : (r : Ordering) → numbered_cmp n x ≡ r → find (λ m. is_eq (numbered_cmp n m)) rest ≡ None
        → cond (is_eq r) (Some x) (find (λ m. is_eq (numbered_cmp n m)) rest) ≡ None
    step Less e more = more
    step Equal e more = absurd (h x (Contains-here x rest) e)
    step Greater e more = more

new_node : (s : StatedValue) (n : NumberedNode) (nodes : List NumberedNode) (edges known : List Edge)
    → Awaits s (n ∷ nodes) edges known
    → find (λ m. is_eq (numbered_cmp n m)) s.nodes ≡ None
new_node s n nodes edges known fits = none_found s.nodes n (λ m held tie. clash m held tie)
  where
    clash : (m : NumberedNode) → Contains s.nodes m → numbered_cmp n m ≡ Equal → ⊥
    clash m held tie =
        let same = fits.apart m n (inl held) (Contains-here n nodes) tie in
        let below = All-contains (λ k. k.number < length s.nodes) s.nodes m fits.lower held in
        let own = fits.counted 0 n (omega arith) in
        absurd (omega (arith, same, below, own))

node_fine : (k : ℕ) (s : StatedValue) (n : NumberedNode) (nodes : List NumberedNode) (edges known : List Edge)
    → Awaits s (n ∷ nodes) edges known
    → node_told k s.nodes n ≡ Ok (tt {0})
node_fine k s n nodes edges known fits =
    let own = fits.counted 0 n (omega arith) in
    let few = fits.few in
    node_told_ok k s.nodes n (omega (arith, own)) (new_node s n nodes edges known fits) (omega (arith, few))

Awaits-node : (s : StatedValue) (n : NumberedNode) (nodes : List NumberedNode) (edges known : List Edge)
    → Awaits s (n ∷ nodes) edges known
    → Awaits (record { nodes = insert_key numbered_cmp s.nodes n; edges = s.edges }) nodes edges known
Awaits-node s n nodes edges known fits =
    let long = length_put n s.nodes (new_node s n nodes edges known fits) in
    let own = fits.counted 0 n (omega arith) in
    let few = fits.few in
    let all : All (λ m. m.number < suc (length s.nodes)) (insert_key numbered_cmp s.nodes n) =
    All-insert_key numbered_cmp n (λ m. m.number < suc (length s.nodes)) s.nodes
    (λ k d l. let below = fits.lower k d l in omega (arith, below)) (omega (arith, own)) in
    record {
      counted = λ i d l. (let number = fits.counted (suc i) d (omega (arith, l)) in omega (arith, number, long));
      lower = λ k d l. (let below = all k d l in omega (arith, below, long));
      apart = λ m o h held tie. fits.apart m o (from_put_or s.nodes n nodes m h) (Contains-later n o nodes held) tie;
      few = omega (arith, few, long);
      once = fits.once;
      stated_known = fits.stated_known;
      all_known = fits.all_known;
      few_known = fits.few_known;
    }

-- ---- an edge

-- different edges that are all known are no more than those
no_more : (xs known : List Edge) → AllPairs Differ xs → ((e : Edge) → Contains xs e → Contains known e)
    → length xs ≤ length known
no_more xs known once there =
    length-le_from_is_member (decided edge_eq edge_eq-Decides) xs known
    (IsDistinct-from_AllPairs edge_eq-Decides xs once)
    (λ q m. (is_member-Decides edge_eq-Decides known q).1 (there q ((is_member-Decides edge_eq-Decides xs q).0 m)))

one_more : (s : StatedValue) (g : StatedEdge) (nodes : List NumberedNode) (edges known : List Edge)
    → Awaits s nodes (g.edge ∷ edges) known
    → is_stated s.edges g.edge ≡ false → AllPairs Differ (edges_of (s.edges ++ g ∷ []))
one_more s g nodes edges known fits new =
    rw (edges_append s.edges g)
    (all_pairs_push Differ (edges_of s.edges) g.edge fits.once
    (λ k d l same. edge_absent s.edges g.edge new
    (subst (Contains (edges_of s.edges)) same (Contains-get_or (edges_of s.edges) k d l))))

still_known : (s : StatedValue) (g : StatedEdge) (nodes : List NumberedNode) (edges known : List Edge)
    → Awaits s nodes (g.edge ∷ edges) known
    → (e : Edge) → Contains (edges_of (with_edge s.edges g)) e → Contains known e
still_known s g nodes edges known fits e held = elim (from_with s.edges g e held) [
  | inl here ↦ subst (Contains known) here (fits.all_known g.edge (Contains-here g.edge edges))
  | inr before ↦ fits.stated_known e before
]

pub length-edges : (edges : List StatedEdge) → length (edges_of edges) ≡ length edges
length-edges [] = refl
length-edges (e ∷ rest) = ap suc (length-edges rest)

edge_fine : (s : StatedValue) (g : StatedEdge) (nodes : List NumberedNode) (edges known : List Edge)
    → Awaits s nodes (g.edge ∷ edges) known
    → (edge_told s.edges g ≡ Ok (tt {0})) × AllPairs Differ (edges_of (with_edge s.edges g))
edge_fine s g nodes edges known fits = elim (cases_Bool (is_stated s.edges g.edge)) [
  | inl old ↦ rw old (refl, fits.once)
  | inr new ↦
      let more = one_more s g nodes edges known fits new in
      let all : (e : Edge) → Contains (edges_of (s.edges ++ g ∷ [])) e → Contains known e =
      λ e held. still_known s g nodes edges known fits e (rw new held) in
      let fit = no_more (edges_of (s.edges ++ g ∷ [])) known more all in
      let long = length-edges (s.edges ++ g ∷ []) in
      let sum = length-append s.edges (g ∷ []) in
      let few = fits.few_known in
      let below : nat_le MOST_EDGES (length s.edges) ≡ false =
      (let less : length s.edges < MOST_EDGES = omega (arith, fit, long, sum, few) in
      grind (arith, nat_tests, less)) in
      rw (new, below) (refl, more)
]

Awaits-edge : (s : StatedValue) (g : StatedEdge) (nodes : List NumberedNode) (edges known : List Edge)
    → Awaits s nodes (g.edge ∷ edges) known
    → Awaits (record { nodes = s.nodes; edges = with_edge s.edges g }) nodes edges known
Awaits-edge s g nodes edges known fits = record {
  counted = fits.counted;
  lower = fits.lower;
  apart = fits.apart;
  few = fits.few;
  once = (edge_fine s g nodes edges known fits).1;
  stated_known = still_known s g nodes edges known fits;
  all_known = λ e held. fits.all_known e (Contains-later g.edge e edges held);
  few_known = fits.few_known;
}

-- ---- all records

pub reads_on : (k : ℕ) (s : StatedValue) (rows : List (List (List ℕ))) (known : List Edge)
    → All (λ fields. IsSome (record_stated 0 fields)) rows
    → Awaits s (nodes_in rows) (edges_in rows) known → (t : StatedValue) × (records_told k s rows ≡ Ok t)
reads_on k s [] known formed fits = (s, refl)
reads_on k s (fields ∷ rows) known formed fits =
    let (t, told_t) = step (record_stated 0 fields)
    (λ more. reads_on (k + 1) more rows known (All-tail (λ fields. IsSome (record_stated 0 fields)) fields rows formed))
    (All-head (λ fields. IsSome (record_stated 0 fields)) fields rows formed) fits in
    (t, ap told (restated k fields) ∙ told_t)
  where
    told : Option DependencyRecord → Told StatedValue
    told o = found_or (CsvRefused k) o >>= (λ found. record_told k s found >>= (λ _. Ok (with_record s found)))
        >>= (λ more. records_told (k + 1) more rows)

    step : (o : Option DependencyRecord)
        → ((more : StatedValue) → Awaits more (nodes_in rows) (edges_in rows) known → (t : StatedValue)
        × (records_told (k + 1) more rows ≡ Ok t))
        → IsSome o → Awaits s (node_of o ++ nodes_in rows) (edge_of o ++ edges_in rows) known
        → (t : StatedValue) × (told (option_map (recounted k) o) ≡ Ok t)
    step None rest some awaits = cc some
    step (Some (NodeRecord n)) rest some awaits =
        let more : StatedValue = record { nodes = insert_key numbered_cmp s.nodes n; edges = s.edges } in
        let (t, last) = rest more (Awaits-node s n (nodes_in rows) (edges_in rows) known awaits) in (
          t,
          ap (λ (w : Told (Unit {0})). w >>= (λ _. Ok more) >>= (λ v. records_told (k + 1) v rows))
              (node_fine k s n (nodes_in rows) (edges_in rows) known awaits) ∙ last,
        )
    step (Some (EdgeRecord f)) rest some awaits =
        let g : StatedEdge = record { record_number = k; edge = f.edge } in
        let more : StatedValue = record { nodes = s.nodes; edges = with_edge s.edges g } in
        let (t, last) = rest more (Awaits-edge s g (nodes_in rows) (edges_in rows) known awaits) in (
          t,
          ap (λ (w : Told (Unit {0})). w >>= (λ _. Ok more) >>= (λ v. records_told (k + 1) v rows))
              (edge_fine s g (nodes_in rows) (edges_in rows) known awaits).0 ∙ last,
        )
