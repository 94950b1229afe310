use Rattle.std.proofs.Common.{ap}
use Rattle.std.specs.Option.{option_copied}
use Rattle.vet_rows.proofs.rows_of.to_row.row_if.Goals as goal

pub to_row-requires : goal.to_row-requires
to_row-requires g c = c.requires c.in-Some.thing.now (ap option_copied c.in-Some.is)
