use Rattle.std.proofs.Common.{append_assoc, rules}
use Rattle.std.proofs.lemmas.Result.{IfOk-equal}
use Rattle.vet_reports.specs.MovesText.{move_line}
use Rattle.vet_reports.proofs.moves_text.push_move.Goals as goal

pub returns : goal.returns
unfolding move_line
returns c = search (rules, IfOk-equal, append_assoc)
