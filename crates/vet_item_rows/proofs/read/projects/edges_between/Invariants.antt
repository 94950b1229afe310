-- The edges of the ends so far.
use Rattle.std.proofs.Common.{take}
use Rattle.vet_demand.specs.Project.{AreInNodeOrder}
use Rattle.vet_item_rows.specs.ReadProjects.{IsEdgeOf}
use Rattle.vet_item_rows.proofs.Reading.{AreThose}
use Rattle.vet_item_rows.proofs.read.projects.edges_between.Given as goal

abbrev pub invariant-ends : goal.invariant-ends
invariant-ends l =
    AreInNodeOrder l.nodes → AreThose (IsEdgeOf l.nodes) (take l.pair-index l.ends) l.edges.items
