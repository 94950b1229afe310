use Rattle.std.proofs.Common.{◌≡◌, ◌∙◌, ◌∷◌, ◌++◌, ◌+◌, [], drop, drop-cons, add-one, get_or, sym}
use Rattle.std.specs.BTreeMap.{get}
use Rattle.std.specs.Ordering.{nat_cmp}
use Rattle.vet_demand.specs.declared.dependency_record.StatedEdge.{StatedEdge}
use Rattle.vet_demand.specs.declared.project.EdgeKind.TheVariants.{Normal}
use Rattle.vet_demand.proofs.PlacingLemmas.{EdgesSoFar-next}
use Rattle.vet_demand.proofs.placing.placed_edges.Goals as goal

abbrev any_edge : StatedEdge
any_edge = record { record_number = 0; edge = record { from = 0; to = 0; kind = Normal } }

pub edges-preserved : goal.edges-preserved
edges-preserved c =
    let edges = c.args.edges.now in
    let place = get nat_cmp c.args.places.now in
    let at = c.edges.stated-index in
    let next : drop at edges ≡ get_or edges at any_edge ∷ drop (at + 1) edges =
    rw (add-one) (drop-cons edges at any_edge c.edges-test.true) in (
      c.edges.invariant.0 ++ (c.in-Some.edge ∷ []),
      EdgesSoFar-next place edges (drop at edges) (drop (at + 1) edges) (get_or edges at any_edge)
          c.edges.between.keys c.insert.new.self.keys c.edges.invariant.0 c.in-Some.edge
          c.edges.invariant.1 next (sym c.placed.ensures ∙ c.in-Some.is) c.in_ok-insert.ensures.keys,
    )
