-- What a search by halves finds in a standing.
use Rattle.std.proofs.Common.{◌≡◌, ℕ, zero, suc, ◌+◌, ◌<◌, false, cond, List, [], ◌∷◌, length, get_or, Some, None}
use Rattle.std.proofs.Common.{Result, Ok, Err, MatchResult, refl, ap, ◌∙◌, inl, inr, arith}
use Rattle.std.specs.List.{All}
use Rattle.std.specs.List.Sorted.{IsBinarySearchResult, IsPartitionPoint, IsSearchInRange, IsSortedBy}
use Rattle.std.specs.Ordering.{is_eq, is_lt, ordering_reverse}
use Rattle.std.specs.declared.cmp.Ordering.TheVariants.{Less, Equal, Greater}
use Rattle.std.proofs.lemmas.List.{get_or-map, length-map}
use Rattle.std.proofs.lemmas.List.Elements.{All-head, All-tail}
use Rattle.std.proofs.lemmas.List.Sorted.{searchable_from_sorted}
use Rattle.std.proofs.lemmas.Bool.{cases_lt}
use Rattle.vet_base.specs.Version.{VersionValue}
use Rattle.vet_demand.specs.declared.pair.Pair.{Pair}
use Rattle.vet_demand.specs.Pair.{pair_cmp, pair_eq}
use Rattle.vet_demand.specs.PairLaws.{pair_cmp-IsAntisymmetric, pair_total}
use Rattle.vet_graph.specs.declared.standing.Stand.{Stand}
use Rattle.vet_graph.specs.Standing.{class_in, IsStanding}
use Rattle.vet_graph.proofs.Differences.{standing_head, standing_tail}

-- a pair that stands at a place is found there
class_at_place : (standing : List Stand) (p : Pair) (i : ℕ) (d : Stand) → IsStanding standing → i < length standing
    → pair_cmp (get_or standing i d).pair p ≡ Equal → class_in standing p ≡ Some (get_or standing i d).class
class_at_place [] p i d h l e = absurd (omega arith)
class_at_place (s ∷ rest) p zero d h l e = ap (λ o. cond (is_eq o) (Some s.class) (class_in rest p)) e
class_at_place (s ∷ rest) p (suc i) d h l e =
    let later : i < length rest = omega arith in
    let first : pair_cmp s.pair p
    ≡ Less = rw (pair_cmp-IsAntisymmetric (get_or rest i d).pair p e) at (standing_head s rest h i d later) in
    ap (λ o. cond (is_eq o) (Some s.class) (class_in rest p)) first ∙ class_at_place rest p i d
    (standing_tail s rest h) later e

-- a pair that ties with none isn't there
class_nowhere : (standing : List Stand) (p : Pair) → All (λ s. pair_eq s.pair p ≡ false) standing
    → class_in standing p ≡ None
class_nowhere [] p h = refl
class_nowhere (s ∷ rest) p h =
    ap (λ b. cond b (Some s.class) (class_in rest p)) (All-head (λ (x : Stand). pair_eq x.pair p ≡ false) s rest h)
    ∙ class_nowhere rest p (All-tail (λ (x : Stand). pair_eq x.pair p ≡ false) s rest h)

not_below : (p q : Pair) → pair_cmp p q ≡ Less → is_lt (pair_cmp q p) ≡ false
not_below p q h = ap is_lt (pair_total.antisymm q p ∙ ap ordering_reverse h)

rises : (standing : List Stand) → IsStanding standing → IsSortedBy (λ a b. is_lt (pair_cmp a.pair b.pair)) standing
rises standing h k d _ m =
    let low : k < length standing = omega arith in
    let at_low = get_or-map (λ (s : Stand). s.pair) standing k d d.pair low in
    let at_high = get_or-map (λ (s : Stand). s.pair) standing (k + 1) d d.pair m in
    not_below (get_or standing k d).pair (get_or standing (k + 1) d).pair
    (rw (at_low, at_high) at (h k (k + 1) d.pair (omega arith) (rw length-map m)))

-- the pair that is asked for
abbrev pub pair_asked : List ℕ → VersionValue → List ℕ → Pair
pair_asked name version criterion = record { «package» = name; version = version; criterion = criterion }

-- the class that a search tells
pub searched : (standing : List Stand) (p : Pair) (r : Result ℕ ℕ) → IsStanding standing
    → IsSearchInRange r (length standing) → IsBinarySearchResult (λ s. pair_cmp s.pair p) standing r
    → MatchResult r (λ i. (d : Stand) → class_in standing p ≡ Some (get_or standing i d).class)
    (λ _. class_in standing p ≡ None)
searched standing p (Ok i) h l at = λ d. class_at_place standing p i d h l (at d)
searched standing p (Err i) h l at =
    let parts : IsPartitionPoint (λ s. pair_cmp s.pair p ≡ Less)
    (λ s. pair_cmp s.pair p ≡ Greater) standing i = at (searchable_from_sorted pair_total (λ s. s.pair) standing p
    (rises standing h)) in
    class_nowhere standing p
    (λ k d m. elim
    (cases_lt k i) [
      | inl low ↦ ap is_eq (parts.0 k d (omega arith) low)
      | inr high ↦ ap is_eq
          (parts.1 k d high m)
    ])
