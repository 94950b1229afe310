use Rattle.vet_base.proofs.Closing.{closure-law}
use Rattle.vet_base.proofs.criteria_table.closure_is_least.Goals as goal

pub returns : goal.returns
returns c table names n = closure-law table names n
