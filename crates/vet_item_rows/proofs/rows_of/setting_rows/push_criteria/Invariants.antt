-- The rows that were there, and those of the criteria so far.
use Rattle.std.proofs.Common.{◌≡◌, ◌++◌, filter, map, take}
use Rattle.vet_base.specs.FurtherCriteria.{is_further}
use Rattle.vet_item_rows.specs.SettingRows.{criterion_row}
use Rattle.vet_item_rows.proofs.rows_of.setting_rows.push_criteria.Given as goal

abbrev pub invariant-criteria : goal.invariant-criteria
invariant-criteria l =
    l.rows.items
    ≡ l.initial.rows.items ++ map (criterion_row l.peer) (filter is_further (take l.criterion-index l.criteria))
