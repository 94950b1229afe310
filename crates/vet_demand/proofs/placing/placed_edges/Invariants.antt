-- The edges so far are placed, and the rest are left to tell.
use Rattle.std.proofs.Common.{List, drop}
use Rattle.std.specs.BTreeMap.{get}
use Rattle.std.specs.Ordering.{nat_cmp}
use Rattle.vet_demand.specs.declared.project.Edge.{Edge}
use Rattle.vet_demand.proofs.PlacingLemmas.{EdgesSoFar}
use Rattle.vet_demand.proofs.placing.placed_edges.Given as goal

abbrev pub invariant-edges : goal.invariant-edges
invariant-edges l = (done : List Edge) × EdgesSoFar (get nat_cmp l.places) l.edges (drop l.stated-index l.edges)
    l.between.keys done
