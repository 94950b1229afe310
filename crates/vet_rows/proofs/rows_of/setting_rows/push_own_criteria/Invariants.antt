-- The rows that were there, and those of the criteria of the names so far.
use Rattle.std.proofs.Common.{◌≡◌, ◌++◌, map, take}
use Rattle.std.specs.List.{filter_map}
use Rattle.vet_item_rows.specs.Columns.{own_peer}
use Rattle.vet_item_rows.specs.SettingRows.{criterion_row}
use Rattle.vet_register.specs.HeldFiles.{further_at}
use Rattle.vet_rows.proofs.rows_of.setting_rows.push_own_criteria.Given as goal

abbrev pub invariant-names : goal.invariant-names
invariant-names l =
    l.rows.items
    ≡ l.initial.rows.items
    ++ map (criterion_row own_peer) (filter_map (further_at l.table) (take l.name-index l.names))
