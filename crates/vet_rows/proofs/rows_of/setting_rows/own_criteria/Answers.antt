use Rattle.std.proofs.Common.{◌∙◌, ◌++◌, List, map, ap}
use Rattle.std.specs.List.{filter_map}
use Rattle.vet_base.specs.Words.{Name}
use Rattle.vet_item_rows.specs.Columns.{own_peer}
use Rattle.vet_item_rows.specs.SettingRows.{criterion_row}
use Rattle.vet_register.specs.HeldFiles.{further_at}
use Rattle.vet_register.proofs.FurtherCriteria.{further_is}
use Rattle.vet_tables.specs.Cells.{Row}
use Rattle.vet_rows.proofs.rows_of.setting_rows.own_criteria.Goals as goal

pub returns : goal.returns
returns c =
    let table = c.args.table.now in
    let row = criterion_row own_peer in
    c.in_ok-push_own_criteria.ensures
    ∙ ap (λ (before : List Row). before ++ map row (filter_map (further_at table) c.names.result.now))
    c.new-rows.ensures.items
    ∙ ap (λ (names : List Name). map row (filter_map (further_at table) names)) c.names.ensures.names
    ∙ ap (map row) (further_is table c.names.ensures.table)
