use Rattle.std.proofs.Common.{append_assoc, rules}
use Rattle.std.proofs.lemmas.Result.{IfOk-equal}
use Rattle.vet_reports.proofs.lapses_text.push_word.Goals as goal

pub returns : goal.returns
returns c = search (rules, IfOk-equal, append_assoc)
