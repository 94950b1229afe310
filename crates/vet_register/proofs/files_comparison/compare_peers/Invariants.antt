-- How the contents of the peers so far stand to what is held of them.
use Rattle.std.proofs.Common.{◌≡◌, map, take}
use Rattle.vet_register.specs.Replacing.{compared_peer}
use Rattle.vet_register.proofs.files_comparison.compare_peers.Given as goal

abbrev pub invariant-peers : goal.invariant-peers
invariant-peers l = l.found.items ≡ map (compared_peer l.facts.content.peers l.files.contents)
    (take l.settings-index l.peers)
