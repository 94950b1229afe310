-- The plans of a keeper that recomputes every class (ours).
use Rattle.std.specs.Prelude.{List}
use Rattle.vet_graph.specs.declared.moves.Move.{Move}
use Rattle.vet_graph.specs.declared.standing.Stand.{Stand}
use Rattle.vet_graph.specs.declared.touched.Touched.{Touched}

-- a planned update: the standing after it, its moves, and the packages that were named as touched
pub record UpdateView : Type 0 where
  pub standing : List Stand
  pub moves : List Move
  pub touched : Touched
