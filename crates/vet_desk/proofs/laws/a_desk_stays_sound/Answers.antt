use Rattle.vet_desk.proofs.DeskLaws.{stays_sound}
use Rattle.vet_desk.proofs.laws.a_desk_stays_sound.Goals as goal

pub returns : goal.returns
returns c = stays_sound
