use Rattle.vet_base.proofs.Tables.{is_in-placed}
use Rattle.vet_base.proofs.criteria_table.placed_names_are_in.Goals as goal

pub returns : goal.returns
returns c table names n = is_in-placed table names n
