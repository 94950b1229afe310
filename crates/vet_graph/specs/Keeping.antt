-- The meaning of the values of a keeper and of its updates (ours).
use Rattle.std.specs.Prelude.{List}
use Rattle.vet_demand.specs.declared.pair.Pair.{Pair}
use Rattle.vet_entries.specs.Facts.{Facts}
use Rattle.vet_graph.specs.declared.moves.Move.{Move}
use Rattle.vet_graph.specs.declared.standing.Stand.{Stand}
use Rattle.vet_graph.specs.declared.touched.Touched.{Touched}

-- for a keeper: the class of each demanded pair, and whether it holds the result for some facts and a demand;
-- for both: whether the keeper planned the update for some facts and a demand in its present state, and still has the
-- room for it; for an update: its moves, and the packages that were named as touched
pub record Keeping (K U : Type 0) : Type 1 where
  pub standing : K → List Stand
  pub keeps : K → Facts → List Pair → Type 0
  pub plans : K → U → Facts → List Pair → Type 0
  pub moves_of : U → List Move
  pub touched_of : U → Touched
