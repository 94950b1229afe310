-- When recorded moves are in their order and lead from some counts to others (ours), as it is computed.
use Rattle.std.specs.Prelude.{◌≡◌, ◌+◌, ◌==◌, Bool, List}
use Rattle.std.specs.Ordering.{is_lt, nat_cmp, on, then_cmp}
use Rattle.vet_demand.specs.Pair.{pair_cmp}
use Rattle.vet_graph.specs.declared.class.Class.{Class}
use Rattle.vet_graph.specs.declared.moves.Move.{Move}
use Rattle.vet_graph.specs.declared.standing.Counts.{Counts}
use Rattle.vet_graph.specs.Moves.{arrivals_of, departures_of}
use Rattle.vet_graph.specs.Standing.{count_in}
use Rattle.vet_register.specs.declared.moves.RecordedMove.{RecordedMove}

-- whether a move was recorded before another: by its step, and then by its pair
abbrev pub comes_before : RecordedMove → RecordedMove → Bool
comes_before m n =
    is_lt (then_cmp (on (λ (r : RecordedMove). r.step) nat_cmp) (on (λ (r : RecordedMove). r.change.pair) pair_cmp) m n)

-- whether moves lead from some counts to others in one class
abbrev pub is_balanced_in : Class → Counts → Counts → List Move → Bool
is_balanced_in class first now moves =
    (count_in class first + arrivals_of class moves) == (count_in class now + departures_of class moves)

-- moves lead from some counts to others in each class
abbrev pub AreBalanced : Counts → Counts → List Move → Type 0
AreBalanced first now moves = (class : Class)
    → count_in class first + arrivals_of class moves ≡ count_in class now + departures_of class moves
