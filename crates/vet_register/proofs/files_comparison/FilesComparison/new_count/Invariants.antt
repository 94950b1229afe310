-- The new entries so far: one's own, and those of the peers.
use Rattle.std.proofs.Common.{◌≡◌, ◌+◌, take}
use Rattle.std.specs.List.{sum_by}
use Rattle.vet_entries.specs.Import.{ComparisonValue}
use Rattle.vet_register.proofs.files_comparison.FilesComparison.new_count.Given as goal

abbrev pub invariant-peers : goal.invariant-peers
invariant-peers l = l.count ≡ l.self.own.new_count + sum_by (λ (c : ComparisonValue). c.new_count)
    (take l.peer-index l.peers)
