-- When the verdict on an import is that its content is already held (ours).
use Rattle.std.specs.Prelude.{◌≡◌, ◌↔◌, false, List, Some, None, Ok}
use Rattle.std.specs.List.{All}
use Rattle.vet_base.specs.Words.{Name}
use Rattle.vet_base.specs.declared.criterion.Criterion.{Criterion}
use Rattle.vet_base.specs.CriteriaChanges.{is_built_in}
use Rattle.vet_base.specs.Day.{DayValue}
use Rattle.vet_base.specs.Defined.{defined}
use Rattle.vet_base.specs.Items.{NamedOnce, SameItems}
use Rattle.vet_entries.specs.declared.held_peer.HeldPeer.{HeldPeer}
use Rattle.vet_entries.specs.HeldPeer.{as_peers, peer_of}
use Rattle.vet_entries.specs.ImportLaws.{entries_of}
use Rattle.vet_entries.specs.PeerContent.{IsPeerContent, PeerContentValue}
use Rattle.vet_register.specs.declared.command.Action.TheVariants.{ImportPeer}
use Rattle.vet_register.specs.declared.command.Command.{Command}
use Rattle.vet_register.specs.declared.verdict.Answer.TheVariants.{Already, Accepted}
use Rattle.vet_register.specs.Machine.{next}
use Rattle.vet_register.specs.Runs.{after}
use Rattle.vet_register.specs.State.{State}
use Rattle.vet_register.specs.Verdict.{verdict}

-- the command to import a content on a day
abbrev pub import_on : DayValue → Name → PeerContentValue → Command
import_on day name content = record { day = day; action = ImportPeer name content }

-- the verdict on a command is that its content is already held, and it changes nothing
abbrev pub ChangesNothing : State → Command → Type 0
ChangesNothing s c = (verdict s c ≡ Ok (Already None)) × (after s c ≡ s)

-- this is so for an import from a held peer exactly if the criteria and the entries are those held of it, in any order
abbrev pub HeldContentIsAlready : Type 0
HeldContentIsAlready =
    (s : State) (day : DayValue) (name : Name) (content : PeerContentValue) (peer : HeldPeer)
    (criteria : List Criterion)
    → IsPeerContent content.criteria content.entries
    → peer_of s.held.facts.peers name ≡ Some peer
    → peer.content.table ≡ defined criteria
    → NamedOnce (λ (c : Criterion). c.name) criteria
    → All (λ c. is_built_in c.name ≡ false) criteria
    → ChangesNothing s (import_on day name content)
    ↔ (SameItems content.criteria criteria
    × SameItems (as_peers name content.entries) (entries_of peer.content.entries))

-- after an import, an import of the same criteria and the same entries, in any order, changes nothing
abbrev pub RepeatedImportIsAlready : Type 0
RepeatedImportIsAlready =
    (s : State) (day later : DayValue) (name : Name) (content again : PeerContentValue)
    → IsPeerContent content.criteria content.entries
    → IsPeerContent again.criteria again.entries
    → SameItems again.criteria content.criteria
    → SameItems again.entries content.entries
    → verdict s (import_on day name content) ≡ Ok Accepted
    → ChangesNothing (next s (import_on day name content)) (import_on later name again)
