-- How nodes come to their places, and edges between them.
use Rattle.std.proofs.Common.{◌≡◌, ◌≢◌, ◌<◌, ◌≤◌, ◌+◌, ℕ, suc, Bool, true, false, cond, List, [], ◌∷◌, ◌++◌, map}
use Rattle.std.proofs.Common.{length, get_or, Option, Some, None, Ordering, Less, Equal, Greater, refl, sym, ap, subst}
use Rattle.std.proofs.Common.{arith, ◌∙◌, append_assoc}
use Rattle.std.specs.Prelude.{◌==◌, fold, Ok, Err, option_map, option_and_then}
use Rattle.std.specs.BTreeMap.{is_at}
use Rattle.std.specs.BTreeSet.{insert_key}
use Rattle.std.specs.List.{All, AllPairs, position_from}
use Rattle.std.specs.List.Sorted.{IsStrictlySortedBy}
use Rattle.std.specs.Option.{option_or}
use Rattle.std.specs.Ordering.{match_ordering, nat_cmp}
use Rattle.std.proofs.lemmas.Bool.Decides.{nat_tests, Decides-eqb}
use Rattle.std.proofs.lemmas.List.{append-nil, length-append, length-map}
use Rattle.std.proofs.lemmas.List.Elements.{All-nil, All-cons, All-head, All-tail, All-map}
use Rattle.std.proofs.lemmas.List.Kept.{AllPairs-cons}
use Rattle.std.proofs.lemmas.List.Sums.{fold-append}
use Rattle.std.proofs.lemmas.Map.Keys.{Less-from_sorted}
use Rattle.std.proofs.lemmas.Map.Views.{All-insert_key}
use Rattle.vet_base.specs.Gives.{Told, found_or, ◌>>=◌}
use Rattle.vet_base.specs.declared.refusal.Refusal.TheVariants.{UnknownNode}
use Rattle.vet_demand.specs.DependencyIndex.{IsTable}
use Rattle.vet_demand.specs.DependencyRecord.{numbered_cmp}
use Rattle.vet_demand.specs.DependencyTable.{edges_told, in_edge_order, place_of, placed, placed_told}
use Rattle.vet_demand.specs.Project.{IsProject, IsWithin, edge_cmp, node_cmp}
use Rattle.vet_demand.specs.declared.dependency_record.NumberedNode.{NumberedNode}
use Rattle.vet_demand.specs.declared.dependency_record.StatedEdge.{StatedEdge}
use Rattle.vet_demand.specs.declared.project.Edge.{Edge}
use Rattle.vet_demand.specs.declared.project.Node.{Node}

-- ---- nodes

abbrev node_of : NumberedNode → Node
node_of n = n.node

abbrev Differ : NumberedNode → NumberedNode → Type 0
Differ a b = a.number ≢ b.number

-- these nodes are listed, the numbers so far lead to their places, and the rest are nodes of other numbers
pub record ArePlaced (all rest : List NumberedNode) (nodes : List Node) (place : ℕ → Option ℕ) : Type 0 where
  pub listed : nodes ++ map node_of rest ≡ map node_of all
  pub found : (k : ℕ) → option_or (place k) (position_from (λ n. n.number == k) (length nodes) rest) ≡ place_of all k
  pub fresh : All (λ n. place n.number ≡ None) rest
  pub differ : AllPairs Differ rest

-- before the first
pub ArePlaced-none : (all rest : List NumberedNode) (nodes : List Node) (place : ℕ → Option ℕ) → rest ≡ all → nodes ≡ []
    → ((k : ℕ) → place k ≡ None) → AllPairs Differ all → ArePlaced all rest nodes place
ArePlaced-none all rest nodes place same empty absent differ = rw (same, empty) (record {
  listed = refl;
  found = λ k. rw (absent k) refl;
  fresh = λ k d l. absent (get_or all k d).number;
  differ = differ;
})

next_found : (place : Option ℕ) (b : Bool) (here : ℕ) (later : Option ℕ) → (b ≡ true → place ≡ None)
    → option_or (cond b (Some here) place) later ≡ option_or place (cond b (Some here) later)
next_found place true here later h = rw (h refl) refl
next_found None false here later h = refl
next_found (Some p) false here later h = refl

-- one node more at its place
pub ArePlaced-next : (all rest more : List NumberedNode) (nodes longer : List Node) (place new : ℕ → Option ℕ)
    (n : NumberedNode)
    → ArePlaced all rest nodes place → rest ≡ n ∷ more → longer ≡ nodes ++ (n.node ∷ [])
    → ((k : ℕ) → new k ≡ cond (is_at (nat_cmp n.number) k) (Some (length nodes)) (place k))
    → ArePlaced all more longer new
ArePlaced-next all rest more nodes longer place new n was now one at =
    let so_far : ArePlaced all (n ∷ more) nodes place = rw now at was in
    let own : place n.number ≡ None = so_far.fresh 0 n (omega arith) in
    record {
      listed = rw one (append_assoc nodes (n.node ∷ []) (map node_of more) ∙ so_far.listed);
      found = λ k. found_next so_far own k;
      fresh = λ k d l. fresh_next so_far k d l;
      differ = λ i j d l u. so_far.differ (suc i) (suc j) d (omega arith) (omega arith);
    }
  where
    same_test : (k : ℕ) → is_at (nat_cmp n.number) k ≡ (n.number == k)
    same_test k = grind (arith, nat_tests)

    found_next : ArePlaced all (n ∷ more) nodes place → place n.number ≡ None → (k : ℕ)
        → option_or (new k) (position_from (λ m. m.number == k) (length longer) more) ≡ place_of all k
    found_next so_far own k =
        let long : length longer ≡ length nodes + 1 = ap length one ∙ length-append nodes (n.node ∷ []) in
        rw (at k, same_test k, long)
        (next_found (place k) (n.number == k) (length nodes)
        (position_from (λ m. m.number == k) (length nodes + 1) more)
        (λ e. ap place (sym ((Decides-eqb n.number k).0 e)) ∙ own) ∙ so_far.found k)

    fresh_next : ArePlaced all (n ∷ more) nodes place → (k : ℕ) (d : NumberedNode) → k < length more
        → new (get_or more k d).number ≡ None
    fresh_next so_far k d l =
        let apart : n.number ≢ (get_or more k d).number = so_far.differ 0 (suc k) d (omega arith) (omega arith) in
        let no : (n.number == (get_or more k d).number) ≡ false = grind (arith, nat_tests) in
        at (get_or more k d).number ∙ rw (same_test (get_or more k d).number, no) (so_far.fresh (suc k) d (omega arith))

or_none : (o : Option ℕ) → option_or o None ≡ o
or_none None = refl
or_none (Some p) = refl

-- after the last
pub all_listed : (all rest : List NumberedNode) (nodes : List Node) (place : ℕ → Option ℕ)
    → ArePlaced all rest nodes place → rest ≡ []
    → nodes ≡ map node_of all
all_listed all rest nodes place was none = sym (append-nil nodes) ∙ (rw none at was.listed)

pub all_found : (all rest : List NumberedNode) (nodes : List Node) (place : ℕ → Option ℕ)
    → ArePlaced all rest nodes place → rest ≡ []
    → place ≡ place_of all
all_found all rest nodes place was none = λ i k. (sym (or_none (place k)) ∙ (rw none at (was.found k))) i

-- ---- edges

abbrev with_front : List Edge → Told (List Edge) → Told (List Edge)
with_front done told = told >>= (λ more. Ok (done ++ more))

-- what is told of all edges is what was placed, then what is told of the rest
pub record EdgesSoFar (place : ℕ → Option ℕ) (edges rest : List StatedEdge) (keys done : List Edge) : Type 0 where
  pub told : placed_told place edges ≡ with_front done (placed_told place rest)
  pub order : keys ≡ in_edge_order done

onto_none : (t : Told (List Edge)) → t ≡ with_front [] t
onto_none (Ok x) = refl
onto_none (Err e) = refl

pub EdgesSoFar-none : (place : ℕ → Option ℕ) (edges rest : List StatedEdge) (keys : List Edge)
    → rest ≡ edges → keys ≡ []
    → EdgesSoFar place edges rest keys []
EdgesSoFar-none place edges rest keys same none = record {
  told = rw same (onto_none (placed_told place edges));
  order = none;
}

onto_next : (done : List Edge) (e : Edge) (t : Told (List Edge))
    → with_front done (t >>= (λ more. Ok (e ∷ more))) ≡ with_front (done ++ (e ∷ [])) t
onto_next done e (Ok more) = ap (λ (es : List Edge). Ok es) (sym (append_assoc done (e ∷ []) more))
onto_next done e (Err x) = refl

pub EdgesSoFar-next : (place : ℕ → Option ℕ) (edges rest more : List StatedEdge) (s : StatedEdge)
    (keys new done : List Edge) (e : Edge)
    → EdgesSoFar place edges rest keys done → rest ≡ s ∷ more → placed place s.edge ≡ Some e
    → new ≡ insert_key edge_cmp keys e
    → EdgesSoFar place edges more new (done ++ (e ∷ []))
EdgesSoFar-next place edges rest more s keys new done e was now here put = record {
  told = was.told ∙ rw (now, here) (onto_next done e (placed_told place more));
  order = put ∙ ap (λ ks. insert_key edge_cmp ks e) was.order
      ∙ sym (fold-append (insert_key edge_cmp) [] done (e ∷ []));
}

-- an edge that names no node is the first such
pub unknown_told : (place : ℕ → Option ℕ) (edges rest more : List StatedEdge) (s : StatedEdge) (keys done : List Edge)
    → EdgesSoFar place edges rest keys done → rest ≡ s ∷ more → placed place s.edge ≡ None
    → edges_told place edges ≡ Err (UnknownNode s.record_number)
unknown_told place edges rest more s keys done was now here =
    let first : placed_told place edges ≡ Err (UnknownNode s.record_number) = was.told ∙ rw (now, here) refl in
    rw first refl

-- all are placed
pub known_told : (place : ℕ → Option ℕ) (edges rest : List StatedEdge) (keys done : List Edge)
    → EdgesSoFar place edges rest keys done → rest ≡ []
    → edges_told place edges ≡ Ok keys
known_told place edges rest keys done was none =
    let all : placed_told place edges ≡ Ok done = was.told ∙ rw (none, append-nil done) refl in
    rw (all, was.order) refl

-- ---- the project

abbrev Rises : Node → Node → Type 0
Rises a b = node_cmp a b ≡ Less

nodes_rise : (nodes : List NumberedNode) → AllPairs (λ a b. numbered_cmp a b ≡ Less) nodes
    → AllPairs Rises (map node_of nodes)
nodes_rise [] up = λ i j d l m. absurd (omega arith)
nodes_rise (n ∷ rest) up =
    AllPairs-cons Rises n.node (map node_of rest)
    (All-map (Rises n.node) node_of rest (λ k d l. up 0 (suc k) d (omega arith) (omega arith)))
    (nodes_rise rest (λ i j d l m. up (suc i) (suc j) d (omega arith) (omega arith)))

position_within : (test : NumberedNode → Bool) (start : ℕ) (nodes : List NumberedNode) (p : ℕ)
    → position_from test start nodes ≡ Some p → p < start + length nodes
position_within test start [] p h = cc h
position_within test start (n ∷ rest) p h = step (test n) h (position_within test (start + 1) rest p)
  where
    step : (b : Bool) → cond b (Some start) (position_from test (start + 1) rest) ≡ Some p
        → (position_from test (start + 1) rest ≡ Some p → p < start + 1 + length rest) → p < start + length (n ∷ rest)
    step true e more = (let same : start ≡ p = cc e in omega arith)
    step false e more = (let below = more e in omega (arith, below))

placed_within : (nodes : List NumberedNode) (e : Edge) (o p : Option ℕ) (q : Edge)
    → ((k : ℕ) → o ≡ Some k → k < length nodes) → ((k : ℕ) → p ≡ Some k → k < length nodes)
    → option_and_then (λ from. option_map (λ to. record { from = from; to = to; kind = e.kind }) p) o ≡ Some q
    → IsWithin (length nodes) q
placed_within nodes e None p q from to h = cc h
placed_within nodes e (Some k) None q from to h = cc h
placed_within nodes e (Some k) (Some m) q from to h =
    let first : k ≡ q.from = cc h in
    let second : m ≡ q.to = cc h in
    let below = from k refl in
    let under = to m refl in
    (omega (arith, below), omega (arith, under))

abbrev AreWithin : List NumberedNode → List Edge → Type 0
AreWithin nodes between = All (IsWithin (length nodes)) between

edges_within : (nodes : List NumberedNode) (edges : List StatedEdge) (between : List Edge)
    → placed_told (place_of nodes) edges ≡ Ok between
    → AreWithin nodes between × (length between ≡ length edges)
edges_within nodes [] between h =
    let none : [] ≡ between = cc h in
    rw (← none) (All-nil (IsWithin (length nodes)), refl)
edges_within nodes (s ∷ rest) between h =
    step (placed (place_of nodes) s.edge) refl (placed_told (place_of nodes) rest) (edges_within nodes rest) h
  where
    place_within : (k p : ℕ) → place_of nodes k ≡ Some p → p < length nodes
    place_within k p e = (let below = position_within (λ n. n.number == k) 0 nodes p e in omega (arith, below))

    step : (o : Option Edge) → placed (place_of nodes) s.edge ≡ o → (t : Told (List Edge))
        → ((between : List Edge) → t ≡ Ok between → AreWithin nodes between × (length between ≡ length rest))
        → (found_or (UnknownNode s.record_number) o >>= (λ e. t >>= (λ more. Ok (e ∷ more)))) ≡ Ok between
        → AreWithin nodes between × (length between ≡ length (s ∷ rest))
    step None at t more e = cc e
    step (Some q) at (Err x) more e = cc e
    step (Some q) at (Ok found) more e =
        let same : q ∷ found ≡ between = cc e in
        let others = more found refl in
        rw (← same) (
          All-cons (IsWithin (length nodes)) q found
              (placed_within nodes s.edge (place_of nodes s.edge.from) (place_of nodes s.edge.to) q
              (place_within s.edge.from) (place_within s.edge.to) at) others.0,
          ap suc others.1,
        )

order_All : (P : Edge → Type 0) (keys es : List Edge) → All P keys → All P es
    → All P (fold (insert_key edge_cmp) keys es)
order_All P keys [] held all = held
order_All P keys (e ∷ es) held all =
    order_All P (insert_key edge_cmp keys e) es (All-insert_key edge_cmp e P keys held (All-head P e es all))
    (All-tail P e es all)

length_put : (keys : List Edge) (e : Edge) → length (insert_key edge_cmp keys e) ≤ length keys + 1
length_put [] e = omega arith
length_put (k ∷ keys) e = step (length_put keys e) (edge_cmp e k)
  where
    step : length (insert_key edge_cmp keys e) ≤ length keys + 1 → (r : Ordering)
        → length (match_ordering r (e ∷ k ∷ keys) (k ∷ keys) (k ∷ insert_key edge_cmp keys e)) ≤ length (k ∷ keys) + 1
    step more Less = omega arith
    step more Equal = omega arith
    step more Greater = omega (arith, more)

order_length : (keys es : List Edge) → length (fold (insert_key edge_cmp) keys es) ≤ length keys + length es
order_length keys [] = omega arith
order_length keys (e ∷ es) =
    let more = order_length (insert_key edge_cmp keys e) es in
    let one = length_put keys e in
    omega (arith, more, one)

pub in_order_told : (t : Told (List Edge)) (keys : List Edge)
    → (t >>= (λ between. Ok (in_edge_order between))) ≡ Ok keys
    → (between : List Edge) × (t ≡ Ok between) × (in_edge_order between ≡ keys)
in_order_told (Err x) keys h = cc h
in_order_told (Ok between) keys h = (between, refl, (cc h))

-- nodes and edges in order are a project
pub stated_IsProject : (nodes : List NumberedNode) (stated : List StatedEdge) (edges : List Edge)
    → IsTable nodes stated → 0 < length nodes
    → IsStrictlySortedBy numbered_cmp nodes → IsStrictlySortedBy edge_cmp edges
    → edges_told (place_of nodes) stated ≡ Ok edges
    → IsProject (record { nodes = map (λ n. n.node) nodes; edges = edges })
stated_IsProject nodes stated edges table some up_nodes up_edges h =
    let told = in_order_told (placed_told (place_of nodes) stated) edges h in
    let known = edges_within nodes stated told.0 told.1 in
    let many : length (map node_of nodes) ≡ length nodes = length-map nodes node_of in
    let within : All (IsWithin (length nodes)) edges =
    subst (λ es. All (IsWithin (length nodes)) es) told.2
    (order_All (IsWithin (length nodes)) [] told.0 (All-nil (IsWithin (length nodes))) known.0) in
    let fewer = order_length [] told.0 in
    let ordered : length (in_edge_order told.0) ≡ length edges = ap length told.2 in
    record {
      nodes_in_order = nodes_rise nodes (λ i j d l m. Less-from_sorted numbered_cmp nodes i j d up_nodes l m);
      edges_in_order = λ i j d l m. Less-from_sorted edge_cmp edges i j d up_edges l m;
      within = rw many within;
      some_nodes = omega (arith, many, some);
      few_nodes = (let few = table.few_nodes in omega (arith, many, few));
      few_edges = (let few = table.few_edges in let same = known.1 in omega (arith, fewer, ordered, same, few));
    }

pub some_from_not_none : (nodes : List NumberedNode) → (length nodes ≡ 0 → ⊥) → 0 < length nodes
some_from_not_none [] h = absurd (h refl)
some_from_not_none (n ∷ rest) h = omega arith
