use Rattle.vet_base.proofs.Meeting.{meet-empty}
use Rattle.vet_base.proofs.criteria_set.meet_of_nothing.Goals as goal

pub returns : goal.returns
returns c a = meet-empty a
