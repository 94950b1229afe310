-- Each of the values so far stands before the next.
use Rattle.std.proofs.Common.{◌≡◌, Less}
use Rattle.std.specs.List.{AllAdjacentBelow}
use Rattle.vet_base.proofs.ranked.are_ranked.Given as goal

abbrev pub invariant-pairs : goal.invariant-pairs
invariant-pairs g l = AllAdjacentBelow (λ x y. g.T.Ranked.rank_cmp x y ≡ Less) l.values l.place
