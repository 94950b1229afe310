use Rattle.std.proofs.Common.{◌≡◌, ◌+◌, length, take}
use Rattle.vet_entries.specs.Facts.{entries_of_peers}
use Rattle.vet_entries.proofs.facts.EntryFacts.entries_total.Given as given

abbrev pub invariant-peers : given.invariant-peers
invariant-peers l = l.total ≡ length l.self.content.entries + entries_of_peers (take l.peer-index l.self.content.peers)
