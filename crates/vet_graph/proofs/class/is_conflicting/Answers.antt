use Rattle.std.proofs.Common.{◌∙◌, sym}
use Rattle.vet_graph.proofs.ChainKinds.{answered, conflicting-iff}
use Rattle.vet_graph.proofs.class.is_conflicting.Goals as goal

pub returns-clause-ok : goal.returns-clause-ok
returns-clause-ok c =
    λ condemned_for asked. answered _ _ c.is_reached.result
    (conflicting-iff c.args.steps.now condemned_for c.args.place c.args.version.now
    (sym asked ∙ sym c.has.ensures.value ∙ c.if-not-has.false))
    c.is_reached.ensures.ok
