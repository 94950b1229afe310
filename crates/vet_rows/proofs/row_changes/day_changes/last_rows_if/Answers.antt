use Rattle.std.proofs.Common.{ap}
use Rattle.std.specs.Option.{option_copied}
use Rattle.vet_rows.proofs.row_changes.day_changes.last_rows_if.Goals as goal

pub last_rows-requires : goal.last_rows-requires
last_rows-requires c = c.requires c.in-Some.held.now (ap option_copied c.in-Some.is)
