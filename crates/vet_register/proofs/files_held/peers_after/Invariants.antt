-- The peers so far, and the next number behind them.
use Rattle.std.proofs.Common.{◌≡◌, ◌+◌, take}
use Rattle.std.specs.List.{sum_by}
use Rattle.vet_register.specs.Replacing.{new_of_peer, new_own, peers_after}
use Rattle.vet_register.proofs.files_held.peers_after.Given as goal

abbrev pub invariant-peers : goal.invariant-peers
invariant-peers l =
    let peers = l.facts.content.peers in
    let first = l.next + new_own l.facts.content l.files in
    let so_far = take l.place l.settings in
    (l.number ≡ first + sum_by (new_of_peer peers l.files.contents) so_far) ×
    (l.peers.items ≡ peers_after first peers l.files.contents so_far)
