-- One's own, and those of the peers so far.
use Rattle.std.proofs.Common.{◌≡◌, ◌++◌, take}
use Rattle.std.specs.List.{flat_map}
use Rattle.vet_item_rows.specs.Columns.{own_peer}
use Rattle.vet_item_rows.specs.SettingRows.{criteria_rows, peer_criteria}
use Rattle.vet_rows.proofs.rows_of.setting_rows.all_criteria.Given as goal

abbrev pub invariant-peers : goal.invariant-peers
invariant-peers l =
    l.rows.items
    ≡ criteria_rows own_peer l.facts.content.criteria
    ++ flat_map peer_criteria (take l.peer-index l.facts.content.peers)
