use Rattle.std.proofs.Common.{◌∙◌, ap, subst}
use Rattle.vet_register.specs.Held.{edited}
use Rattle.vet_rows.specs.KeyTexts.{ArePeersNamed, KeysAreRead, MovesAreRead, PairsAreRead, AddedProjectsAreRead}
use Rattle.vet_rows.specs.StandingChanges.{recorded_moves}
use Rattle.vet_rows.proofs.row_changes.texts_are_read.Goals as goal

pub returns : goal.returns
returns g c =
    let held = c.args.register.now.state.held in
    record {
      peers = subst ArePeersNamed c.peers.ensures c.peers_are_named.ensures;
      peers_after = subst (λ e. ArePeersNamed (edited e held).facts.peers) c.edit.ensures
          c.peers_after_are_named.ensures;
      policies = subst KeysAreRead c.policies.ensures c.keys_are_read.ensures;
      policies_after = subst (λ e. KeysAreRead (edited e held).policies) c.edit-2.ensures c.keys_after_are_read.ensures;
      projects = subst AddedProjectsAreRead c.edit-3.ensures c.projects_added_are_read.ensures;
      projects_held = rw (c.edit-4.ensures, c.projects.ensures) at c.projects_held_are_read.ensures;
      pairs = subst PairsAreRead c.demand.ensures c.pairs_are_read.ensures;
      moves = subst MovesAreRead (c.recorded_moves.ensures ∙ ap recorded_moves c.recording.ensures)
          c.moves_are_read.ensures;
    }
