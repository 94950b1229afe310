-- Tables that differ in the numbering of their nodes alone state the same project.
use Rattle.std.proofs.Common.{◌≡◌, ◌⊎◌, ◌+◌, ℕ, cond, List, [], ◌∷◌, map, Option, Some, None, Ok, Err, Ordering, Equal}
use Rattle.std.proofs.Common.{refl, sym, ap, subst, arith, ◌∙◌, inl, inr}
use Rattle.std.specs.Prelude.{◌==◌, option_and_then, option_map}
use Rattle.std.specs.Cmp.{IsTotalOrder, both_ways}
use Rattle.std.specs.List.{AllPairs, Contains, position_from}
use Rattle.std.specs.Ordering.{ordering_reverse}
use Rattle.std.proofs.lemmas.Bool.Decides.{Decides-eqb}
use Rattle.std.proofs.lemmas.List.Elements.{All-map}
use Rattle.std.proofs.lemmas.List.Kept.{AllPairs-cons}
use Rattle.vet_base.specs.Gives.{Told, found_or, ◌>>=◌}
use Rattle.vet_base.specs.declared.refusal.Refusal.TheVariants.{UnknownNode}
use Rattle.vet_demand.specs.DependencyRecord.{numbered_cmp}
use Rattle.vet_demand.specs.DependencyRecordLaws.{numbered_total}
use Rattle.vet_demand.specs.DependencyTable.{in_edge_order, place_of, placed, placed_told}
use Rattle.vet_demand.specs.Numbering.{renamed, renumbered}
use Rattle.vet_demand.specs.Project.{edge_cmp}
use Rattle.vet_demand.specs.ProjectLaws.{edge_cmp-IsAntisymmetric, edge_total}
use Rattle.vet_demand.specs.declared.dependency_record.NumberedNode.{NumberedNode}
use Rattle.vet_demand.specs.declared.dependency_record.StatedEdge.{StatedEdge}
use Rattle.vet_demand.specs.declared.project.Edge.{Edge}
use Rattle.vet_demand.specs.declared.project.Node.{Node}
use Rattle.vet_base.proofs.ItemLemmas.{pairs_head, pairs_tail}
use Rattle.vet_demand.proofs.Lists.{in_none}
use Rattle.vet_base.proofs.ListLemmas.{Contains-cons_cases, Contains-here, Contains-later}
use Rattle.vet_demand.proofs.ReadParts.{edges_of}
use Rattle.vet_base.proofs.SameKeys.{Rises, all_rise, from_all, later, same_keys, to_all}

-- ---- lists

pub in_map : {X Y : Type 0} (f : X → Y) (xs : List X) (x : X) → Contains xs x → Contains (map f xs) (f x)
in_map f [] x held = in_none x held
in_map f (y ∷ ys) x held = elim (Contains-cons_cases y ys x held) [
  | inl here ↦ (0, omega arith, ap f here)
  | inr there ↦ Contains-later (f y) (f x) (map f ys) (in_map f ys x there)
]

pub from_map : {X Y : Type 0} (f : X → Y) (xs : List X) (y : Y) → Contains (map f xs) y
    → (x : X) × Contains xs x × (f x ≡ y)
from_map f [] y held = in_none y held
from_map f (x ∷ xs) y held = elim (Contains-cons_cases (f x) (map f xs) y held) [
  | inl here ↦ (x, Contains-here x xs, here)
  | inr there ↦ let r = from_map f xs y there in (r.0, Contains-later x r.0 xs r.1, r.2)
]

-- of keys in order two that tie are one
pub tied_same : {K : Type 0} (cmp : K → K → Ordering) (total : IsTotalOrder cmp) (keys : List K)
    → AllPairs (Rises cmp total) keys → (a b : K)
    → Contains keys a → Contains keys b → cmp a b ≡ Equal → a ≡ b
tied_same cmp total [] up a b first second tie = in_none a first
tied_same cmp total (x ∷ keys) up a b first second tie = elim (Contains-cons_cases x keys a first) [
  | inl a_head ↦ elim (Contains-cons_cases x keys b second) [
    | inl b_head ↦ sym a_head ∙ b_head
    | inr b_later ↦ cc (sym tie ∙ ap (λ k. cmp k b) (sym a_head) ∙ later cmp total x keys b up b_later)
  ]
  | inr a_later ↦ elim (Contains-cons_cases x keys b second) [
    | inl b_head ↦ cc (sym tie ∙ total.antisymm a b ∙ ap ordering_reverse (ap (λ k. cmp k a) (sym b_head)
        ∙ later cmp total x keys a up a_later))
    | inr b_later ↦ tied_same cmp total keys (pairs_tail (Rises cmp total) x keys up) a b a_later b_later tie
  ]
]

pub no_pairs : {X : Type 0} (R : X → X → Type 0) → AllPairs R []
no_pairs R i j d l m = absurd (omega arith)

-- ---- places

abbrev NodesRise : List NumberedNode → Type 0
NodesRise nodes = AllPairs (Rises numbered_cmp numbered_total) nodes

pub renumbered_rise : (rename : ℕ → ℕ) (nodes : List NumberedNode) → NodesRise nodes
    → NodesRise (map (renumbered rename) nodes)
renumbered_rise rename [] up = no_pairs (Rises numbered_cmp numbered_total)
renumbered_rise rename (n ∷ rest) up =
    AllPairs-cons (Rises numbered_cmp numbered_total) (renumbered rename n) (map (renumbered rename) rest)
    (All-map (Rises numbered_cmp numbered_total (renumbered rename n)) (renumbered rename) rest
    (pairs_head (Rises numbered_cmp numbered_total) n rest up))
    (renumbered_rise rename rest (pairs_tail (Rises numbered_cmp numbered_total) n rest up))

same_test : (rename : ℕ → ℕ) → ((j k : ℕ) → rename j ≡ rename k → j ≡ k) → (j k : ℕ) → (rename j == rename k) ≡ (j == k)
same_test rename apart j k =
    both_ways (rename j == rename k) (j == k)
    (λ e. (Decides-eqb j k).1 (apart j k ((Decides-eqb (rename j) (rename k)).0 e)))
    (λ e. (Decides-eqb (rename j) (rename k)).1 (ap rename ((Decides-eqb j k).0 e)))

same_place : (rename : ℕ → ℕ) → ((j k : ℕ) → rename j ≡ rename k → j ≡ k)
    → (start : ℕ) (nodes : List NumberedNode) (k : ℕ)
    → position_from (λ n. n.number == rename k) start (map (renumbered rename) nodes) ≡ position_from
    (λ n. n.number == k) start nodes
same_place rename apart start [] k = refl
same_place rename apart start (n ∷ rest) k =
    λ i. cond (same_test rename apart n.number k i) (Some start) (same_place rename apart (start + 1) rest k i)

pub same_placed : (rename : ℕ → ℕ) → ((j k : ℕ) → rename j ≡ rename k → j ≡ k) → (nodes : List NumberedNode) (e : Edge)
    → placed (place_of (map (renumbered rename) nodes)) (renamed rename e) ≡ placed (place_of nodes) e
same_placed rename apart nodes e =
    λ i. option_and_then (λ from. option_map (λ to. let f : Edge = record { from = from; to = to; kind = e.kind } in
    f) (same_place rename apart 0 nodes e.to i))
    (same_place rename apart 0 nodes e.from i)

pub same_nodes : (rename : ℕ → ℕ) (nodes : List NumberedNode)
    → map (λ n. n.node) (map (renumbered rename) nodes) ≡ map (λ n. n.node) nodes
same_nodes rename [] = refl
same_nodes rename (n ∷ rest) = ap (λ (ns : List Node). n.node ∷ ns) (same_nodes rename rest)

-- ---- edges between places

-- the edges that were placed are those between places
pub record ArePlacedEdges (place : ℕ → Option ℕ) (edges between : List Edge) : Type 0 where
  pub each : (e : Edge) → Contains edges e → (q : Edge) × (placed place e ≡ Some q) × Contains between q
  pub only : (q : Edge) → Contains between q → (e : Edge) × Contains edges e × (placed place e ≡ Some q)

pub placed_edges : (place : ℕ → Option ℕ) (edges : List StatedEdge) (between : List Edge)
    → placed_told place edges ≡ Ok between
    → ArePlacedEdges place (edges_of edges) between
placed_edges place [] between h =
    let none : [] ≡ between = cc h in
    record {
      each = λ e held. in_none e held;
      only = λ q held. in_none q (subst (λ es. Contains es q) (sym none) held);
    }
placed_edges place (s ∷ rest) between h = step (placed place s.edge) refl (placed_told place rest)
    (placed_edges place rest) h
  where
    step : (o : Option Edge) → placed place s.edge ≡ o → (t : Told (List Edge))
        → ((more : List Edge) → t ≡ Ok more → ArePlacedEdges place (edges_of rest) more)
        → (found_or (UnknownNode s.record_number) o >>= (λ e. t >>= (λ more. Ok (e ∷ more)))) ≡ Ok between
        → ArePlacedEdges place (s.edge ∷ edges_of rest) between
    step None at t more e = cc e
    step (Some q) at (Err x) more e = cc e
    step (Some q) at (Ok others) more e =
        let same : q ∷ others ≡ between = cc e in
        let behind = more others refl in
        subst (λ es. ArePlacedEdges place (s.edge ∷ edges_of rest) es) same (record {
          each = λ f held. first f behind (Contains-cons_cases s.edge (edges_of rest) f held);
          only = λ r held. last r behind (Contains-cons_cases q others r held);
        })
      where
        first : (f : Edge) → ArePlacedEdges place (edges_of rest) others → (s.edge ≡ f) ⊎ Contains (edges_of rest) f
            → (r : Edge) × (placed place f ≡ Some r) × Contains (q ∷ others) r
        first f behind (inl here) = (q, ap (placed place) (sym here) ∙ at, Contains-here q others)
        first f behind (inr there) =
            (let (r, placed_r, held) = behind.each f there in (r, placed_r, Contains-later q r others held))

        last : (r : Edge) → ArePlacedEdges place (edges_of rest) others → (q ≡ r) ⊎ Contains others r
            → (f : Edge) × Contains (s.edge ∷ edges_of rest) f × (placed place f ≡ Some r)
        last r behind (inl here) = (s.edge, Contains-here s.edge (edges_of rest), at ∙ ap (λ (o : Edge). Some o) here)
        last r behind (inr there) =
            (let (f, held, placed_f) = behind.only r there in
            (f, Contains-later s.edge f (edges_of rest) held, placed_f))

-- edges that all have places are placed
pub all_placed : (place : ℕ → Option ℕ) (edges : List StatedEdge)
    → ((e : Edge) → Contains (edges_of edges) e → (q : Edge) × (placed place e ≡ Some q))
    → (between : List Edge) × (placed_told place edges ≡ Ok between)
all_placed place [] h = ([], refl)
all_placed place (s ∷ rest) h =
    let (q, at) = h s.edge (Contains-here s.edge (edges_of rest)) in
    let (between, others) = all_placed place rest (λ e held. h e (Contains-later s.edge e (edges_of rest) held)) in
    (q ∷ between, λ i. found_or (UnknownNode s.record_number) (at i) >>= (λ f. others i >>= (λ more. Ok (f ∷ more))))

-- lists of the same edges are one in order
pub same_order : (xs ys : List Edge) → ((e : Edge) → Contains xs e → Contains ys e)
    → ((e : Edge) → Contains ys e → Contains xs e) → in_edge_order xs ≡ in_edge_order ys
same_order xs ys there back =
    same_keys edge_cmp edge_total (in_edge_order xs) (in_edge_order ys)
    (all_rise edge_cmp edge_total [] xs (no_pairs (Rises edge_cmp edge_total)))
    (all_rise edge_cmp edge_total [] ys (no_pairs (Rises edge_cmp edge_total)))
    (λ e held. among xs ys e there (from_all edge_cmp edge_total [] xs e held))
    (λ e held. among ys xs e back (from_all edge_cmp edge_total [] ys e held))
  where
    among : (us vs : List Edge) (e : Edge) → ((f : Edge) → Contains us f → Contains vs f)
        → Contains [] e ⊎ Contains us e → Contains (in_edge_order vs) e
    among us vs e h (inl none) = in_none e none
    among us vs e h (inr held) = to_all edge_cmp edge_total edge_cmp-IsAntisymmetric [] vs e (inr (h e held))
