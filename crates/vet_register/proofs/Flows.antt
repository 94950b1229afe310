-- How many moves arrive at each class, as more are recorded, and how many depart, by the balance.
use Rattle.std.proofs.Common.{◌≡◌, ◌+◌, ◌++◌, ◌<◌, ◌≤◌, ◌^◌, ◌∙◌, List, length, refl, sym, ap, arith}
use Rattle.std.proofs.lemmas.List.{length-append, length-map, map-append}
use Rattle.std.proofs.lemmas.List.Sums.{count_by-le-length}
use Rattle.std.specs.Prelude.{Some}
use Rattle.std.specs.Option.{option_eq}
use Rattle.vet_graph.specs.declared.class.Class.{Class}
use Rattle.vet_graph.specs.declared.class.Class.TheVariants.{Conflicting, Full, Partial, Exempted, Unvetted}
use Rattle.vet_graph.specs.declared.moves.Move.{Move}
use Rattle.vet_graph.specs.declared.standing.Counts.{Counts}
use Rattle.vet_graph.specs.Moves.{ArrivalsAdd, arrivals_of, departures_of}
use Rattle.vet_graph.specs.Standing.{count_in, same_class}
use Rattle.vet_register.specs.declared.moves.RecordedMove.{RecordedMove}
use Rattle.vet_register.specs.Flow.{arrivals, departures}
use Rattle.vet_register.specs.SoundMoves.{AreBalanced}
use Rattle.vet_register.specs.State.{changes_of}

-- the count of a class is how many arrive at it
arrived-at : (class : Class) (moves : List Move) → count_in class (arrivals moves) ≡ arrivals_of class moves
arrived-at Conflicting moves = refl
arrived-at Full moves = refl
arrived-at Partial moves = refl
arrived-at Exempted moves = refl
arrived-at Unvetted moves = refl

-- those of some moves and of more behind them
pub arrived-more : ArrivalsAdd → (class : Class) (arrived : Counts) (more moves : List RecordedMove)
    → arrived ≡ arrivals (changes_of moves)
    → arrivals_of class (changes_of (moves ++ more)) ≡ count_in class arrived + arrivals_of class (changes_of more)
arrived-more add class arrived more moves is =
    ap (arrivals_of class) (map-append (λ (m : RecordedMove). m.change) moves more)
    ∙ add class (changes_of moves) (changes_of more)
    ∙ ap (λ n. n + arrivals_of class (changes_of more))
    (sym (ap (count_in class) is ∙ arrived-at class (changes_of moves)))

-- they are no more than the moves
pub arrived-fits : ArrivalsAdd → (class : Class) (arrived : Counts) (more moves : List RecordedMove)
    → arrived ≡ arrivals (changes_of moves) → length (moves ++ more) < 2 ^ 64
    → count_in class arrived + arrivals_of class (changes_of more) < 2 ^ 64
arrived-fits add class arrived more moves is few = omega (
  arith,
  few,
  arrived-more add class arrived more moves is,
  count_by-le-length (λ (m : Move). option_eq same_class m.after (Some class)) (changes_of (moves ++ more)),
  length-map (moves ++ more) (λ (m : RecordedMove). m.change),
)

-- what departed is there at first or arrived, and is there no more
pub departed-are : (class : Class) (first arrived present : Counts) (moves : List Move) → arrived ≡ arrivals moves
    → AreBalanced first present moves
    → count_in class first + count_in class arrived ≡ count_in class present + departures_of class moves
departed-are class first arrived present moves is balanced =
    ap (λ n. count_in class first + n) (ap (count_in class) is ∙ arrived-at class moves) ∙ balanced class

pub departed-fit : (class : Class) (moves : List Move) → departures_of class moves ≤ length moves
departed-fit class moves = count_by-le-length (λ (m : Move). option_eq same_class m.before (Some class)) moves
