use Rattle.std.proofs.Common.{◌∙◌, ap}
use Rattle.std.specs.List.{flat_map}
use Rattle.vet_rows.specs.RowExchanges.{row_changes_of}
use Rattle.vet_rows.specs.StandingChanges.{clear_moves}
use Rattle.vet_rows.proofs.Pushed.{pushed}
use Rattle.vet_rows.proofs.row_changes.all_changes.Goals as goal

pub returns : goal.returns
returns g c =
    pushed (c.in_ok-changes.ensures ∙ ap clear_moves c.recording.ensures)
    (ap (flat_map row_changes_of) c.in_ok-exchanges.ensures) c.in_ok-push_exchanges.ensures
