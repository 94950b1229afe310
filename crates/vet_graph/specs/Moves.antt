-- The moves from one standing to another (ours): the pairs at which the two differ, with both classes.
use Rattle.std.specs.Prelude.{◌≡◌, ◌≢◌, ℕ, ◌+◌, cond, List, [], ◌∷◌, ◌++◌, map, Some, None}
use Rattle.std.specs.List.{All, AllPairs, Contains, count_by}
use Rattle.std.specs.Option.{option_eq}
use Rattle.std.specs.declared.cmp.Ordering.{Ordering}
use Rattle.std.specs.declared.cmp.Ordering.TheVariants.{Less, Equal, Greater}
use Rattle.vet_demand.specs.declared.pair.Pair.{Pair}
use Rattle.vet_demand.specs.Pair.{pair_cmp}
use Rattle.vet_graph.specs.declared.class.Class.{Class}
use Rattle.vet_graph.specs.declared.moves.Move.{Move}
use Rattle.vet_graph.specs.declared.standing.Stand.{Stand}
use Rattle.vet_graph.specs.Standing.{class_in, count_of, same_class, IsStanding}

-- a pair that was demanded no longer is
abbrev pub leaves : Stand → Move
leaves s = record { pair = s.pair; before = Some s.class; after = None }

-- a pair that was not demanded now is
abbrev pub comes : Stand → Move
comes t = record { pair = t.pair; before = None; after = Some t.class }

-- a pair is in both standings; it moves if its classes differ
abbrev pub changes : Stand → Stand → List Move
changes s t = cond (same_class s.class t.class) []
    (record { pair = s.pair; before = Some s.class; after = Some t.class } ∷ [])

-- the moves from a list that begins with s to one with t, by the order of their pairs: s leaves, both stay, or t comes
abbrev pub moves_by : Ordering → Stand → Stand → List Move → List Move → List Move → List Move
moves_by Less s t less equal greater = leaves s ∷ less
moves_by Equal s t less equal greater = changes s t ++ equal
moves_by Greater s t less equal greater = comes t ∷ greater

-- the moves from s and the rest of its list; `more` gives those from this rest
abbrev pub moves_past : Stand → (List Stand → List Move) → List Stand → List Move
moves_past s more [] = leaves s ∷ more []
moves_past s more (t ∷ after) =
    moves_by (pair_cmp s.pair t.pair) s t (more (t ∷ after)) (more after) (moves_past s more after)

-- the moves from one standing to another, by a walk along both in order
abbrev pub moves_between : List Stand → List Stand → List Move
moves_between [] after = map comes after
moves_between (s ∷ before) after = moves_past s (moves_between before) after

-- the number of moves that arrive at a class
abbrev pub arrivals_of : Class → List Move → ℕ
arrivals_of class moves = count_by (λ m. option_eq same_class m.after (Some class)) moves

-- the number of moves that depart from a class
abbrev pub departures_of : Class → List Move → ℕ
departures_of class moves = count_by (λ m. option_eq same_class m.before (Some class)) moves

-- the moves are the pairs at which the standings differ, each once, in order, with both classes
pub record AreMoves (before after : List Stand) (moves : List Move) : Type 0 where
  pub in_order : AllPairs (λ m n. pair_cmp m.pair n.pair ≡ Less) moves
  pub each : All
      (λ m. (m.before ≡ class_in before m.pair) × (m.after ≡ class_in after m.pair) × (m.before ≢ m.after)) moves
  pub all : (p : Pair) → class_in before p ≢ class_in after p → Contains (map (λ m. m.pair) moves) p

-- if both standings are in order, the walk gives the moves
abbrev pub MovesAreDifferences : Type 0
MovesAreDifferences = (before after : List Stand) → IsStanding before → IsStanding after
    → AreMoves before after (moves_between before after)

-- the number of pairs in a class after, plus the departures, is the number before, plus the arrivals
abbrev pub MovesBalance : Type 0
MovesBalance = (class : Class) (before after : List Stand)
    → count_of class after + departures_of class (moves_between before after)
    ≡ count_of class before + arrivals_of class (moves_between before after)

-- the arrivals of two lists of moves add up
abbrev pub ArrivalsAdd : Type 0
ArrivalsAdd = (class : Class) (first more : List Move)
    → arrivals_of class (first ++ more) ≡ arrivals_of class first + arrivals_of class more

-- the departures of two lists of moves add up
abbrev pub DeparturesAdd : Type 0
DeparturesAdd = (class : Class) (first more : List Move)
    → departures_of class (first ++ more) ≡ departures_of class first + departures_of class more
