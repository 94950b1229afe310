use Rattle.vet_base.proofs.Meeting.{contains-leading}
use Rattle.vet_base.proofs.criteria_table.led_to.Goals as goal

pub returns : goal.returns
returns c table places p = contains-leading table places p
