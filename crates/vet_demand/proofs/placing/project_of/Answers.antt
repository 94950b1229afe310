use Rattle.std.proofs.lemmas.Bool.{false≢true}
use Rattle.vet_demand.proofs.PlacingLemmas.{some_from_not_none, stated_IsProject}
use Rattle.vet_demand.proofs.placing.project_of.Goals as goal

pub of-requires : goal.of-requires
of-requires c =
    let nodes = c.table.inside.nodes.keys in
    let stated = c.table.inside.edges.items in
    let told = rw (c.in_ok-placed.ensures.places, c.as_slice.ensures.value) at c.in_ok-edges.ensures.told in
    rw c.in_ok-placed.ensures.nodes
    (stated_IsProject nodes stated c.in_ok-edges.edges.items c.table.invariant.0
    (some_from_not_none nodes (λ none. false≢true (c.if-is_empty.ensures.1 none)))
    c.in_ok-placed.ensures.ordered c.in_ok-edges.ensures.ordered told)
