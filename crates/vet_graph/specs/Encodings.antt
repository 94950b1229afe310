-- How models are stored (ours): each as a value of pairs, lists and numbers.
use Rattle.std.specs.Prelude.{List}
use Rattle.std.specs.Coded.{Coded, code_by, coded×, coded_list}
use Rattle.std.proofs.Common.{refl}
use Rattle.vet_graph.specs.declared.moves.Move.{Move}
use Rattle.vet_graph.specs.declared.standing.Stand.{Stand}
use Rattle.vet_graph.specs.declared.touched.Touched.{Touched}
use Rattle.vet_graph.specs.Plain.{UpdateView}

-- an update is stored as the tuple of its parts
abbrev pub update_code : Coded Stand → Coded Move → Coded Touched → Coded UpdateView
update_code stand_code move_code touched_code =
    code_by (List Stand × (List Move × Touched))
    (coded× (coded_list stand_code) (coded× (coded_list move_code) touched_code))
    (λ u. (u.standing, (u.moves, u.touched)))
    (λ p. record { standing = p.0; moves = p.1.0; touched = p.1.1 })
    (λ _. refl)
