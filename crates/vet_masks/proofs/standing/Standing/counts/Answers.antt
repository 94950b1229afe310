use Rattle.std.proofs.Common.{subst}
use Rattle.vet_masks.specs.Standings.{AreByPackage}
use Rattle.vet_masks.proofs.Standings.{all-in_order}
use Rattle.vet_masks.proofs.standing.Standing.counts.Goals as goal

pub returns-clause-in_order : goal.returns-clause-in_order
returns-clause-in_order c = all-in_order c.args.self.now (subst AreByPackage c.self.view_is c.self.invariant.0)
