use Rattle.vet_desk.proofs.DeskLaws.{known_is_not_beyond, stay_known, unnamed_may_go}
use Rattle.vet_desk.proofs.laws.open_criteria_stay_known.Goals as goal

pub returns : goal.returns
returns c = record { accepted = stay_known; unnamed = unnamed_may_go; beyond = known_is_not_beyond }
