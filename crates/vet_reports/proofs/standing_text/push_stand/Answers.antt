use Rattle.std.proofs.Common.{append_assoc, rules}
use Rattle.std.proofs.lemmas.Result.{IfOk-equal}
use Rattle.vet_reports.specs.StandingText.{stand_line}
use Rattle.vet_reports.proofs.standing_text.push_stand.Goals as goal

pub returns : goal.returns
unfolding stand_line
returns c = search (rules, IfOk-equal, append_assoc)
