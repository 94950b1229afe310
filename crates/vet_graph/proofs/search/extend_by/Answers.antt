use Rattle.std.proofs.Common.{get_or}
use Rattle.std.proofs.lemmas.List.{take_all}
use Rattle.vet_graph.proofs.Reach.{take-kept}
use Rattle.vet_graph.proofs.ReachedHeads.{LeadsOn-more, StandsBefore-kept}
use Rattle.vet_graph.proofs.search.extend_by.Goals as goal

pub take_step-requires-clause-stands : goal.take_step-requires-clause-stands
take_step-requires-clause-stands c =
    let i = c.places.place-index in
    StandsBefore-kept c.args.steps.now c.args.reached.now.places.items c.places.reached.places.items
    (get_or c.args.places.now i 0) c.places.invariant.kept (c.requires.stands i 0 c.places-test.true)

pub places-preserved : goal.places-preserved
places-preserved c = record {
  reaching = c.in_ok-take_step.ensures.reaching;
  kept = take-kept _ _ _ c.places.invariant.kept c.in_ok-take_step.ensures.kept;
  taken = LeadsOn-more c.args.steps.now c.args.terms.now c.places.reached.places.items
      c.take_step.new.reached.places.items c.args.places.now c.places.place-index c.places-test.true
      c.in_ok-take_step.ensures.kept c.places.invariant.taken c.in_ok-take_step.ensures.taken;
}

pub returns-clause-taken : goal.returns-clause-taken
returns-clause-taken c = rw
    (take_all c.places.place-index c.args.places.now c.places-test.false) at c.places.invariant.taken
