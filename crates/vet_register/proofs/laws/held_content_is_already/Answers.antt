use Rattle.vet_register.proofs.RepeatLaws.{held_is_already}
use Rattle.vet_register.proofs.laws.held_content_is_already.Goals as goal

pub returns : goal.returns
returns c = held_is_already
