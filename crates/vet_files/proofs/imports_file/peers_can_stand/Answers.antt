use Rattle.vet_files.proofs.PeerStanding.{can-stand}
use Rattle.vet_files.proofs.imports_file.peers_can_stand.Goals as goal

pub returns : goal.returns
returns c = can-stand c.args.content.now.criteria c.args.content.now.entries c.criteria.ensures.content
