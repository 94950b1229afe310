use Rattle.vet_desk.proofs.DeskLaws.{stay_given}
use Rattle.vet_desk.proofs.laws.finished_entries_stay_given.Goals as goal

pub returns : goal.returns
returns c = stay_given
