-- The projects become fewer.
use Rattle.std.proofs.Common.{length}
use Rattle.vet_demand.proofs.audited.+audited_in.Given as goal

abbrev pub decreases-audited_in : goal.decreases-audited_in
decreases-audited_in l = length l.projects.now
