-- The room that is left by the entries that are kept, the own ones, and those of the peers so far.
use Rattle.std.proofs.Common.{◌≡◌, ◌+◌, length, take}
use Rattle.std.specs.List.{sum_by}
use Rattle.vet_register.specs.Replacing.{count_of_peer}
use Rattle.vet_register.proofs.files_verdict.has_more_entries.Given as goal

abbrev pub invariant-peers : goal.invariant-peers
invariant-peers l = l.room + (l.staying
    + (length l.files.entries + sum_by (count_of_peer l.files.contents) (take l.settings-index l.peers))) ≡ l.most
