-- Pairs in their order, and lists in order with the same pairs.
use Rattle.std.proofs.Common.{◌≡◌, ◌⊎◌, ℕ, suc, List, [], ◌∷◌, refl, sym, ap, ◌∙◌, inl, inr, Ordering, Less, Equal}
use Rattle.std.proofs.Common.{Greater, arith}
use Rattle.std.specs.List.{All, Contains}
use Rattle.std.specs.Cmp.{tied_itself}
use Rattle.std.specs.Cmp.Lexicographic.{nat_list_cmp_total, slice_cmp}
use Rattle.std.specs.Ordering.{match_ordering, nat_cmp, ordering_reverse, ordering_then}
use Rattle.std.proofs.lemmas.List.Elements.{All-nil, All-cons, All-head, All-tail, All-contains, All-contains_itself}
use Rattle.std.proofs.lemmas.List.Kept.{AllPairs-cons}
use Rattle.vet_base.specs.VersionOrder.{version_cmp}
use Rattle.vet_base.specs.VersionOrderLaws.{version_total}
use Rattle.vet_base.proofs.ListLemmas.{Contains-cons_cases, Contains-later}
use Rattle.vet_base.proofs.SameKeys.{all_rise, from_all, same_keys, to_all}
use Rattle.vet_demand.specs.Demand.{AreThePairs}
use Rattle.vet_demand.specs.DemandOf.{in_order, pair_of}
use Rattle.vet_demand.specs.Pair.{IsInOrder, pair_cmp}
use Rattle.vet_demand.specs.PairLaws.{pair_cmp-IsAntisymmetric, pair_total}
use Rattle.vet_demand.specs.Project.{node_cmp}
use Rattle.vet_demand.specs.declared.pair.Pair.{Pair}
use Rattle.vet_demand.specs.declared.project.Node.{Node}

-- ---- the pairs of nodes

later_then : (r s t : Ordering) → ordering_then r s ≡ Less → ordering_then r (ordering_then s t) ≡ Less
later_then Less s t h = refl
later_then Equal Less t h = refl
later_then Equal Equal t h = cc h
later_then Equal Greater t h = cc h
later_then Greater s t h = cc h

-- the pairs of a node come before those of a later one
pub later_pair : (m n : Node) (b c : List ℕ) → node_cmp m n ≡ Less → pair_cmp (pair_of m b) (pair_of n c) ≡ Less
later_pair m n b c = later_then (slice_cmp nat_cmp m.«package» n.«package») (version_cmp m.version n.version)
    (slice_cmp nat_cmp b c)

-- those of one node stand as the names do
pub later_name : (n : Node) (b c : List ℕ) → slice_cmp nat_cmp b c ≡ Less → pair_cmp (pair_of n b) (pair_of n c) ≡ Less
later_name n b c h = λ i. ordering_then (tied_itself nat_list_cmp_total n.«package» i)
    (ordering_then (tied_itself version_total n.version i) (h i))

-- ---- all pairs of a list

-- they are those of the list, each once, in order
pub in_order-AreThePairs : (pairs : List Pair) → AreThePairs pairs (in_order pairs)
in_order-AreThePairs pairs = record {
  in_order = all_rise pair_cmp pair_total [] pairs (λ i j d l m. absurd (omega (arith, m)));
  same = λ p. (
    λ h. elim (from_all pair_cmp pair_total [] pairs p h) [
      | inl none ↦ absurd (omega (arith, none.1))
      | inr held ↦ held
    ],
    λ h. to_all pair_cmp pair_total pair_cmp-IsAntisymmetric [] pairs p (inr h),
  );
}

-- ---- lists in order with the same pairs are the same

pub same_pairs : (xs ys : List Pair) → IsInOrder xs → IsInOrder ys → ((p : Pair) → Contains xs p → Contains ys p)
    → ((p : Pair) → Contains ys p → Contains xs p) → xs ≡ ys
same_pairs = same_keys pair_cmp pair_total
