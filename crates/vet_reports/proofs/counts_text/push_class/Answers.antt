use Rattle.std.proofs.Common.{append_assoc, rules}
use Rattle.std.proofs.lemmas.Result.{IfOk-equal}
use Rattle.vet_reports.specs.CountsText.{row}
use Rattle.vet_reports.proofs.counts_text.push_class.Goals as goal

pub returns : goal.returns
unfolding row
returns c = search (rules, IfOk-equal, append_assoc)
