use Rattle.std.proofs.Common.{◌∙◌, sym, ap}
use Rattle.std.proofs.lemmas.List.{append-nil}
use Rattle.vet_item_rows.specs.Columns.{own_peer}
use Rattle.vet_item_rows.specs.SettingRows.{criteria_rows}
use Rattle.vet_rows.proofs.rows_of.setting_rows.all_criteria.Goals as goal

pub peers-init : goal.peers-init
peers-init c =
    c.in_ok-rows.ensures ∙ ap (criteria_rows own_peer) c.criteria.ensures.value
    ∙ sym (append-nil (criteria_rows own_peer c.args.facts.now.content.criteria))
