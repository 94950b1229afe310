-- How many moves arrive at each class, and how many depart from each (ours).
use Rattle.std.specs.Prelude.{List}
use Rattle.vet_graph.specs.Moves.{arrivals_of, departures_of}
use Rattle.vet_graph.specs.declared.class.Class.TheVariants.{Conflicting, Full, Partial, Exempted, Unvetted}
use Rattle.vet_graph.specs.declared.moves.Move.{Move}
use Rattle.vet_graph.specs.declared.standing.Counts.{Counts}

-- how many arrive at each class
abbrev pub arrivals : List Move → Counts
arrivals moves = record {
  conflicting = arrivals_of Conflicting moves;
  full = arrivals_of Full moves;
  partial = arrivals_of Partial moves;
  exempted = arrivals_of Exempted moves;
  unvetted = arrivals_of Unvetted moves;
}

-- how many depart from each class
abbrev pub departures : List Move → Counts
departures moves = record {
  conflicting = departures_of Conflicting moves;
  full = departures_of Full moves;
  partial = departures_of Partial moves;
  exempted = departures_of Exempted moves;
  unvetted = departures_of Unvetted moves;
}
