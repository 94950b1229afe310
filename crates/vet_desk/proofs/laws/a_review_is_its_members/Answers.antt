use Rattle.vet_desk.proofs.DeskLaws.{only_its_member, open_waits, waiting_or_own}
use Rattle.vet_desk.proofs.laws.a_review_is_its_members.Goals as goal

pub returns : goal.returns
returns c = record { state = open_waits; finish = only_its_member; withdraw = waiting_or_own }
