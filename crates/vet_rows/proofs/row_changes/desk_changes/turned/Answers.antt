use Rattle.std.proofs.Common.{ap}
use Rattle.std.specs.Option.{option_copied}
use Rattle.vet_rows.proofs.row_changes.desk_changes.turned.Goals as goal

pub turned_row-requires : goal.turned_row-requires
turned_row-requires c = c.requires c.in-Some.review.now (ap option_copied c.in-Some.is)
