use Rattle.std.proofs.Common.{◌∙◌, ◌++◌, ◌∷◌, [], sym}
use Rattle.vet_graph.proofs.Standings.{standing_push}
use Rattle.vet_graph.proofs.plain.stands_of.Goals as goal

pub pairs-preserved : goal.pairs-preserved
pairs-preserved c = (
  c.in_ok-push.ensures.items ∙ (λ i. c.pairs.invariant.0 i ++ c.in_ok-stand_of.ensures.ok i ∷ [])
      ∙ sym (standing_push c.args.facts.now.content c.args.demand.now c.pairs.pair-index c.pair-item.result
      c.pairs-test.true (sym c.pair-item.is)),
  rw (← c.in_ok-found.ensures.steps.named) at c.in_ok-found.ensures.steps,
  c.package_steps.ensures.local,
)
