-- Commands whose content is held in their turn (ours).
use Rattle.std.specs.Prelude.{◌≡◌, ◌⊎◌, List, Some, None, Ok}
use Rattle.vet_base.specs.FurtherCriteria.{further}
use Rattle.vet_base.specs.Gives.{Told}
use Rattle.vet_base.specs.Items.{SameItems}
use Rattle.vet_base.specs.Words.{Name}
use Rattle.vet_entries.specs.declared.held_peer.HeldPeer.{HeldPeer}
use Rattle.vet_entries.specs.HeldPeer.{as_peers, peer_of}
use Rattle.vet_entries.specs.ImportLaws.{entries_of}
use Rattle.vet_entries.specs.PeerContent.{IsPeerContent, PeerContentValue}
use Rattle.vet_files.specs.FilesContent.{IsFiles}
use Rattle.vet_register.specs.declared.command.Action.{Action}
use Rattle.vet_register.specs.declared.command.Action.TheVariants.{ImportPeer, ReplaceFiles}
use Rattle.vet_register.specs.declared.command.Command.{Command}
use Rattle.vet_register.specs.declared.command.Outcome.{Outcome}
use Rattle.vet_register.specs.declared.command.Outcome.TheVariants.{Already}
use Rattle.vet_register.specs.RepeatedFiles.{SayWhatIsHeld}
use Rattle.vet_register.specs.State.{State}
use Rattle.vet_store.specs.Runs.{Fails, IsTurn}

-- a content is the one that is held of the peer with this name: the same criteria and the same entries, in any order
pub record IsHeldOf (peers : List HeldPeer) (name : Name) (content : PeerContentValue) : Type 0 where
  pub peer : HeldPeer
  pub found : peer_of peers name ≡ Some peer
  pub criteria : SameItems content.criteria (further peer.content.table)
  pub entries : SameItems (as_peers name content.entries) (entries_of peer.content.entries)

-- a command imports what is held of its peer, or replaces the files by what is held, except for exemptions with a last
-- day
abbrev pub Repeats : State → Action → Type 0
Repeats s (ImportPeer name content) = IsHeldOf s.held.facts.peers name content
Repeats s (ReplaceFiles files) = SayWhatIsHeld s.held files
Repeats s _ = ⊥

-- the answer to such a command is that its content is held already, unless it fails; and the state stays, with its
-- numbers and its moves
abbrev pub RepeatsStay : State → Command → Told Outcome → State → Type 0
RepeatsStay s c answer end = Repeats s c.action → ((answer ≡ Ok (Already None)) ⊎ Fails answer) × (end ≡ s)

-- a turn in which this holds
abbrev pub IsTurnWithRepeats : State → Command → Told Outcome → State → Type 0
IsTurnWithRepeats s c answer end = IsTurn s c answer end × RepeatsStay s c answer end

-- the content that a command imports, or puts in place of files, is what files can hold
abbrev pub IsReadable : Action → Type 0
IsReadable (ImportPeer name content) = IsPeerContent content.criteria content.entries
IsReadable (ReplaceFiles files) = IsFiles files
IsReadable _ = Unit {0}
