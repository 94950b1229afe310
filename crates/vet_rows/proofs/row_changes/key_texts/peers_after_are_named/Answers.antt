use Rattle.std.proofs.Common.{subst, sym}
use Rattle.vet_register.specs.Held.{edited}
use Rattle.vet_rows.specs.KeyTexts.{ArePeersNamed}
use Rattle.vet_rows.proofs.TextsAfter.{peers_after}
use Rattle.vet_rows.proofs.row_changes.key_texts.peers_after_are_named.Goals as goal

pub returns-in-Facts : goal.returns-in-Facts
returns-in-Facts g c =
    let held = c.args.register.now.state.held in
    subst (λ e. ArePeersNamed (edited e held).facts.peers) (sym c.in-Facts.is)
    (peers_after c.in-Facts.edit held.facts (subst ArePeersNamed c.peers.ensures c.peers_are_named.ensures)
    c.peer_added_is_named.ensures)

pub returns-in-Files : goal.returns-in-Files
returns-in-Files g c =
    subst (λ e. ArePeersNamed (edited e c.args.register.now.state.held).facts.peers) (sym c.in-Files.is)
    (subst ArePeersNamed c.peers-in-Files.ensures.value c.peers_are_named-in-Files.ensures)

pub returns-in-Policies : goal.returns-in-Policies
returns-in-Policies g c =
    subst (λ e. ArePeersNamed (edited e c.args.register.now.state.held).facts.peers) (sym c.in-Policies.is)
    (subst ArePeersNamed c.peers.ensures c.peers_are_named.ensures)

pub returns-in-Projects : goal.returns-in-Projects
returns-in-Projects g c =
    subst (λ e. ArePeersNamed (edited e c.args.register.now.state.held).facts.peers) (sym c.in-Projects.is)
    (subst ArePeersNamed c.peers.ensures c.peers_are_named.ensures)

pub returns-in-Nothing : goal.returns-in-Nothing
returns-in-Nothing g c =
    subst (λ e. ArePeersNamed (edited e c.args.register.now.state.held).facts.peers) (sym c.in-Nothing.is)
    (subst ArePeersNamed c.peers.ensures c.peers_are_named.ensures)
