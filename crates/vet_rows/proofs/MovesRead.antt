-- Moves in the order in which they were recorded.
use Rattle.std.proofs.Common.{◌≡◌, ◌<◌, ◌∙◌, List, Ordering, Less, Equal, Greater, get_or, inl, inr, refl, ap}
use Rattle.std.proofs.Common.{arith}
use Rattle.std.specs.Cmp.{ranked}
use Rattle.std.specs.List.{AllPairs}
use Rattle.std.specs.Ordering.{MatchOrdering, nat_cmp, ordering_then}
use Rattle.vet_base.specs.Ranked.{IsRanked}
use Rattle.vet_demand.specs.Pair.{pair_cmp}
use Rattle.vet_rows.specs.MoveOrder.{recorded_cmp}
use Rattle.vet_register.specs.Sound.{ComesBefore}
use Rattle.vet_register.specs.declared.moves.RecordedMove.{RecordedMove}

rank_before : (m n : RecordedMove) → ComesBefore m n → recorded_cmp m n ≡ Less
rank_before m n before =
    by (nat_cmp m.step n.step) refl (ranked m.step n.step (nat_cmp m.step n.step) refl) before
  where
    by : (r : Ordering) → nat_cmp m.step n.step ≡ r
        → MatchOrdering r (m.step < n.step) (m.step ≡ n.step) (n.step < m.step) → ComesBefore m n
        → recorded_cmp m n ≡ Less
    by Less e order h = ap (λ o. ordering_then o (pair_cmp m.change.pair n.change.pair)) e
    by Equal e order (inl less) = absurd (omega (arith, order, less))
    by Equal e order (inr same) = ap (λ o. ordering_then o (pair_cmp m.change.pair n.change.pair)) e ∙ same.1
    by Greater e order (inl less) = absurd (omega (arith, order, less))
    by Greater e order (inr same) = absurd (omega (arith, order, same.0))

pub ranked_moves : (moves : List RecordedMove) → AllPairs ComesBefore moves → IsRanked recorded_cmp moves
ranked_moves moves before i j d l m = rank_before (get_or moves i d) (get_or moves j d) (before i j d l m)
