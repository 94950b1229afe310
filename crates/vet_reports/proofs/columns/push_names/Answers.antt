use Rattle.std.proofs.Common.{append_assoc, rules}
use Rattle.std.proofs.lemmas.Result.{IfOk-equal}
use Rattle.vet_reports.specs.Columns.{comma_list}
use Rattle.vet_reports.proofs.columns.push_names.Goals as goal

pub returns : goal.returns
unfolding comma_list
returns c = search (rules, IfOk-equal, append_assoc)

pub returns-in_default : goal.returns-in_default
unfolding comma_list
returns-in_default c = search (rules, IfOk-equal, append_assoc)
