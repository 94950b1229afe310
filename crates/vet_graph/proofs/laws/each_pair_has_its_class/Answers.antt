use Rattle.vet_graph.proofs.Standings.{pair_class_holds, pair_class_is_only, pairs_stand_at_their_class}
use Rattle.vet_graph.proofs.laws.each_pair_has_its_class.Goals as goal

pub returns : goal.returns
returns c = record { holds = pair_class_holds; only = pair_class_is_only; stands = pairs_stand_at_their_class }
