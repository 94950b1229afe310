use Rattle.std.proofs.Common.{◌≡◌, ◌∙◌}
use Rattle.vet_base.proofs.Rising.{R}
use Rattle.vet_entries.specs.HeldPeer.{peer_name}
use Rattle.vet_entries.proofs.SetInOrder.{set_in_order}
use Rattle.vet_entries.proofs.facts.EntryFacts.of_parts.Goals as goal

pub returns-clause-ok : goal.returns-clause-ok
returns-clause-ok c =
    let peers : c.in_ok-peers.peers.items ≡ c.args.peers.items = c.in_ok-peers.ensures
    ∙ set_in_order R peer_name c.args.peers.items c.requires.peers in
    λ i. record {
      criteria = c.args.criteria;
      entries = c.in_ok-entries.ensures i;
      peers = peers i;
      publishers = c.in_ok-publishers.ensures i;
      today = c.args.today;
    }
