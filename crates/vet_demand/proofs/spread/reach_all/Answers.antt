use Rattle.std.proofs.Common.{◌∙◌, subst}
use Rattle.std.proofs.lemmas.List.{take_all}
use Rattle.vet_demand.proofs.Lists.{take-kept}
use Rattle.vet_demand.proofs.Spreading.{Reaches-next}
use Rattle.vet_demand.specs.Spread.{Reaches}
use Rattle.vet_demand.proofs.spread.reach_all.Goals as goal

pub nodes-preserved : goal.nodes-preserved
nodes-preserved c = record {
  count = c.in_ok-reach.ensures.count ∙ c.nodes.invariant.count;
  kept = take-kept _ _ _ c.nodes.invariant.kept c.in_ok-reach.ensures.kept;
  reaches = Reaches-next c.args.place c.args.nodes.now c.nodes.node-index 0 c.args.sets.now.items c.nodes.sets.items
      c.reach.new.sets.items
      c.args.reached.now.items c.nodes.reached.items c.reach.new.reached.items c.nodes-test.true
      c.in_ok-reach.ensures.kept
      c.nodes.invariant.reaches c.in_ok-reach.ensures.reaches;
}

pub returns-clause-reaches : goal.returns-clause-reaches
returns-clause-reaches c =
    subst (λ l. Reaches c.args.place l c.args.sets.now.items c.args.reached.now.items c.nodes.sets.items
    c.nodes.reached.items)
    (take_all c.nodes.node-index c.args.nodes.now c.nodes-test.false) c.nodes.invariant.reaches
