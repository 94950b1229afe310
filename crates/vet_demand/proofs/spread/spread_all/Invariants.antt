-- The criteria so far are led on.
use Rattle.vet_demand.specs.Spread.{AreSpread, lists_in}
use Rattle.vet_demand.proofs.spread.spread_all.Given as goal

abbrev pub invariant-criteria : goal.invariant-criteria
invariant-criteria l = AreSpread l.place (lists_in l.onward) l.fn.sets.items l.sets.items
