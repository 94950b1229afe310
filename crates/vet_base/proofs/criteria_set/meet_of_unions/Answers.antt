use Rattle.vet_base.proofs.Meeting.{meet-union}
use Rattle.vet_base.proofs.criteria_set.meet_of_unions.Goals as goal

pub returns : goal.returns
returns c a b d = meet-union a b d
