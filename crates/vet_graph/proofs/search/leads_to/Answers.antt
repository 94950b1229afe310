use Rattle.std.proofs.lemmas.List.{take_all}
use Rattle.vet_graph.proofs.Reach.{leads_nowhere}
use Rattle.vet_graph.proofs.search.leads_to.Goals as goal

pub returns : goal.returns
returns c = (
  λ t. cc t,
  λ h. absurd
      (leads_nowhere c.args.steps.now c.args.places.now c.args.version.now
      (rw (take_all c.places.place-index c.args.places.now c.places-test.false) at c.places.invariant) h),
)
