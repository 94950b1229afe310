use Rattle.std.proofs.Common.{subst}
use Rattle.vet_rows.proofs.RowKeys.{keys_differ}
use Rattle.vet_rows.specs.KeyTexts.{ArePeersNamed, KeysAreRead, MovesAreRead, PairsAreRead, ProjectsAreRead}
use Rattle.vet_rows.proofs.laws.keys_differ.Goals as goal

pub returns : goal.returns
returns g c =
    keys_differ c.args.register.now.state c.facts.ensures.sound
    (subst ArePeersNamed c.peers.ensures c.peers_are_named.ensures)
    (subst KeysAreRead c.policies.ensures c.keys_are_read.ensures)
    (subst ProjectsAreRead c.projects.ensures c.projects_are_read.ensures)
    (subst PairsAreRead c.demand.ensures c.pairs_are_read.ensures)
    (subst MovesAreRead c.moves.ensures c.moves_are_read.ensures)
