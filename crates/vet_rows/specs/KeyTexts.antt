-- Texts in keys that read back as what they are written for (ours).
use Rattle.std.specs.Prelude.{◌≡◌, List, Some}
use Rattle.vet_base.specs.Items.{IsIn}
use Rattle.vet_base.specs.Version.{IsVersion}
use Rattle.vet_demand.specs.PolicyKey.{key_text, read_key}
use Rattle.vet_demand.specs.Project.{IsProject}
use Rattle.vet_demand.specs.declared.pair.Pair.{Pair}
use Rattle.vet_demand.specs.declared.policies.KeyedPolicy.{KeyedPolicy}
use Rattle.vet_demand.specs.declared.project.NamedProject.{NamedProject}
use Rattle.vet_demand.specs.declared.project.Node.{Node}
use Rattle.vet_entries.specs.declared.facts.Edit.{Edit}
use Rattle.vet_entries.specs.declared.facts.Edit.TheVariants as facts_edit
use Rattle.vet_entries.specs.declared.held_peer.HeldPeer.{HeldPeer}
use Rattle.vet_entries.specs.HeldPeer.{peer_name}
use Rattle.vet_item_rows.specs.Columns.{own_peer}
use Rattle.vet_register.specs.declared.held.HeldEdit.{HeldEdit}
use Rattle.vet_register.specs.declared.held.HeldEdit.TheVariants as edit
use Rattle.vet_register.specs.declared.moves.RecordedMove.{RecordedMove}
use Rattle.vet_register.specs.declared.change.Change.{Change}
use Rattle.vet_register.specs.Held.{edited}
use Rattle.vet_register.specs.State.{State, demanded}
use Rattle.vet_rows.specs.KeyedItems.{added_item}
use Rattle.vet_rows.specs.StandingChanges.{recorded_moves}

-- the keys of policies
abbrev pub KeysAreRead : List KeyedPolicy → Type 0
KeysAreRead policies = (p : KeyedPolicy) → IsIn p policies → read_key (key_text p.key) ≡ Some p.key

-- the versions of pairs
abbrev pub PairsAreRead : List Pair → Type 0
PairsAreRead pairs = (p : Pair) → IsIn p pairs → IsVersion p.version

-- the versions of a project's nodes, which are those of a project
abbrev pub NodesAreRead : NamedProject → Type 0
NodesAreRead named = IsProject named.project × ((n : Node) → IsIn n named.project.nodes → IsVersion n.version)

-- of the project that an edit adds
abbrev pub AddedProjectsAreRead : HeldEdit → Type 0
AddedProjectsAreRead (edit.Projects change) = (p : NamedProject) → added_item change ≡ Some p → NodesAreRead p
AddedProjectsAreRead _ = Unit {0}

-- of some projects
abbrev pub ProjectsAreRead : List NamedProject → Type 0
ProjectsAreRead projects = (p : NamedProject) → IsIn p projects → NodesAreRead p

-- of the projects that are held, if one of them changes
abbrev pub ProjectsHeldAreRead : HeldEdit → List NamedProject → Type 0
ProjectsHeldAreRead (edit.Projects change) projects = ProjectsAreRead projects
ProjectsHeldAreRead _ projects = Unit {0}

-- the versions of the pairs of moves
abbrev pub MovesAreRead : List RecordedMove → Type 0
MovesAreRead moves = (m : RecordedMove) → IsIn m moves → IsVersion m.change.pair.version

-- no peer has the empty name, which stands for oneself
abbrev pub ArePeersNamed : List HeldPeer → Type 0
ArePeersNamed peers = (p : HeldPeer) → IsIn p peers → peer_name p ≡ own_peer → ⊥

-- nor does the one that an edit of facts adds have it
abbrev pub AddedPeerIsNamed : Edit → Type 0
AddedPeerIsNamed (facts_edit.Peer change) = (p : HeldPeer) → added_item change ≡ Some p → peer_name p ≡ own_peer → ⊥
AddedPeerIsNamed (facts_edit.Settings settings) = settings.name ≡ own_peer → ⊥
AddedPeerIsNamed _ = Unit {0}

-- all of these, before and after a change
pub record AreRead {K U : Type 0} (s : State) (change : Change K U) : Type 0 where
  pub peers : ArePeersNamed s.held.facts.peers
  pub peers_after : ArePeersNamed (edited change.edit s.held).facts.peers
  pub policies : KeysAreRead s.held.policies
  pub policies_after : KeysAreRead (edited change.edit s.held).policies
  pub projects : AddedProjectsAreRead change.edit
  pub projects_held : ProjectsHeldAreRead change.edit s.held.projects
  pub pairs : PairsAreRead (demanded s)
  pub moves : MovesAreRead (recorded_moves change.recording)
