use Rattle.vet_desk.proofs.DeskLaws.{member_is_added, members_stay}
use Rattle.vet_desk.proofs.laws.a_member_is_added.Goals as goal

pub returns : goal.returns
returns c = record { added = member_is_added; others = members_stay }
