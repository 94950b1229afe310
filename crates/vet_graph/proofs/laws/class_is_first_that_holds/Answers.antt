use Rattle.vet_graph.specs.ClassAtLaws.{class_at-is, class_at-unique}
use Rattle.vet_graph.proofs.laws.class_is_first_that_holds.Goals as goal

pub returns : goal.returns
returns c = record { first = class_at-is; only = class_at-unique }
