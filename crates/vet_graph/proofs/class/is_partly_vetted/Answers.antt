use Rattle.vet_graph.proofs.ChainKinds.{answered, partial-iff}
use Rattle.vet_graph.proofs.class.is_partly_vetted.Goals as goal

pub returns-clause-ok : goal.returns-clause-ok
returns-clause-ok c =
    λ condemned_for guarded. answered _ _ c.is_cleanly_reached.result
    (partial-iff c.args.steps.now condemned_for c.args.place c.args.version guarded) c.is_cleanly_reached.ensures.ok
