-- The least of the one handed in and of the peers so far.
use Rattle.std.proofs.Common.{◌≡◌, take}
use Rattle.std.specs.FinMap as map
use Rattle.std.specs.Option.{option_copied}
use Rattle.vet_register.specs.NamesOfFiles.{unknown_of_targets}
use Rattle.vet_register.proofs.files_verdict.unknown_of_targets.Given as goal

abbrev pub invariant-peers : goal.invariant-peers
invariant-peers l = option_copied l.least ≡ unknown_of_targets (map.contains_key l.table) (option_copied l.first)
    (take l.settings-index l.peers)
