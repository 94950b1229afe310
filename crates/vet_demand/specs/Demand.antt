-- A demand (ours): pairs in the order of reports, each once.
use Rattle.std.specs.Prelude.{◌↔◌, List}
use Rattle.std.specs.List.{Contains}
use Rattle.vet_demand.specs.declared.pair.Pair.{Pair}
use Rattle.vet_demand.specs.Pair.{IsInOrder}

-- the pairs of a list, each once, in order
pub record AreThePairs (source pairs : List Pair) : Type 0 where
  pub in_order : IsInOrder pairs
  pub same : (p : Pair) → Contains pairs p ↔ Contains source p
