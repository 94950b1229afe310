use Rattle.vet_entries.proofs.SameOfPackage.{content_set, entries_kept, exclusions_set, peer_dropped, peer_same}
use Rattle.vet_entries.proofs.SameOfPackage.{settings_set}
use Rattle.vet_entries.proofs.laws.peers_keep_other_packages.Goals as goal

pub returns : goal.returns
returns c = record {
  peer = peer_same;
  settings = settings_set;
  exclusions = exclusions_set;
  content = λ facts at content name up. content_set facts name up at content;
  entries = λ facts at content name up. entries_kept facts name up at content;
  dropped = λ facts at name up. peer_dropped facts name up at;
}
