-- The rows that were there, and those of the things so far.
use Rattle.std.proofs.Common.{◌≡◌, ◌++◌, map, take}
use Rattle.vet_rows.proofs.rows_of.to_row.push_rows.Given as goal

abbrev pub invariant-things : goal.invariant-things
invariant-things g l = l.rows.items ≡ l.initial.rows.items ++ map g.T.ToRow.row_of (take l.thing-index l.things)
