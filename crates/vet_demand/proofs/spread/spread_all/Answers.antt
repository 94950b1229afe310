use Rattle.vet_demand.proofs.Spreading.{AreSpread-next}
use Rattle.vet_demand.specs.Spread.{lists_in}
use Rattle.vet_demand.proofs.spread.spread_all.Goals as goal

pub criteria-preserved : goal.criteria-preserved
criteria-preserved c =
    AreSpread-next c.criteria.place (lists_in c.args.onward.now)
    c.args.sets.now.items c.criteria.sets.items c.spread.new.sets.items
    c.criteria.invariant c.in_ok-spread.ensures.ok
