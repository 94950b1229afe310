use Rattle.std.proofs.Common.{subst}
use Rattle.vet_masks.specs.Standings.{AreByPackage}
use Rattle.vet_masks.proofs.standing.Standing.is_by_package.Goals as goal

pub returns : goal.returns
returns c = subst AreByPackage c.self.view_is c.self.invariant.0
