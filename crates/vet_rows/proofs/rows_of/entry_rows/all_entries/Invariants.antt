-- One's own, and those of the peers so far.
use Rattle.std.proofs.Common.{◌≡◌, ◌++◌, map, take}
use Rattle.std.specs.List.{flat_map}
use Rattle.vet_item_rows.specs.EntryRows.{entry_row, peer_entries}
use Rattle.vet_rows.proofs.rows_of.entry_rows.all_entries.Given as goal

abbrev pub invariant-peers : goal.invariant-peers
invariant-peers l =
    l.rows.items
    ≡ map entry_row l.facts.content.entries ++ flat_map peer_entries (take l.peer-index l.facts.content.peers)
