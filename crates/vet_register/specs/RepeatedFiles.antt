-- When the verdict on files is that their content is already held (ours).
--
-- Files say what is held (SayWhatIsHeld) if all of this holds. Their criteria are those held besides the built-in ones,
-- and their entries are the own ones apart from exemptions with a last day, each in any order. The peers of the config
-- file are those held, with these settings. The imports file says of each what is held of it, and says nothing of any
-- other peer (SaysWhatIsHeld, each_is_set). Publisher records, policies and the settings for the tool are equal. Two
-- sets of three files say the same (SayTheSame) if they have the same criteria and own entries, and the same content
-- for each peer, each list in any order, and if everything else is equal: the settings of peers, the names of the peers
-- in the imports file, publisher records, policies and the settings for the tool.
use Rattle.std.specs.Prelude.{◌≡◌, ◌↔◌, true, List, Ok, map}
use Rattle.std.specs.List.{All}
use Rattle.vet_base.specs.Day.{DayValue}
use Rattle.vet_base.specs.FurtherCriteria.{further}
use Rattle.vet_base.specs.Items.{SameItems}
use Rattle.vet_base.specs.Words.{Name}
use Rattle.vet_entries.specs.declared.entry.Source.TheVariants.{Own}
use Rattle.vet_entries.specs.declared.held_peer.HeldPeer.{HeldPeer}
use Rattle.vet_entries.specs.HeldPeer.{as_peers}
use Rattle.vet_entries.specs.PeerContent.{PeerContentValue}
use Rattle.vet_entries.specs.Replaced.{as_of}
use Rattle.vet_entries.specs.ReplacedLaws.{entries_of}
use Rattle.vet_files.specs.FilesContent.{FilesValue, IsFiles, content_for, each_is_set}
use Rattle.vet_files.specs.SameContent.{undated}
use Rattle.vet_files.specs.declared.imports_file.ImportedPeer.{ImportedPeer}
use Rattle.vet_register.specs.declared.command.Action.TheVariants.{ReplaceFiles}
use Rattle.vet_register.specs.declared.command.Command.{Command}
use Rattle.vet_register.specs.declared.verdict.Answer.TheVariants.{Accepted}
use Rattle.vet_register.specs.Held.{HeldValue}
use Rattle.vet_register.specs.Machine.{next}
use Rattle.vet_register.specs.Repeats.{ChangesNothing}
use Rattle.vet_register.specs.Replacing.{tool_of_files}
use Rattle.vet_register.specs.Sound.{IsSound}
use Rattle.vet_register.specs.State.{State}
use Rattle.vet_register.specs.Verdict.{verdict}

-- the command to put files in place on a day
abbrev pub replace_on : DayValue → FilesValue → Command
replace_on day files = record { day = day; action = ReplaceFiles files }

-- an imports file says of a peer what is held of it: the same criteria and the same entries
abbrev pub SaysWhatIsHeld : List ImportedPeer → HeldPeer → Type 0
SaysWhatIsHeld contents peer =
    SameItems (content_for contents peer.settings.name).criteria (further peer.content.table)
    × SameItems (as_peers peer.settings.name (content_for contents peer.settings.name).entries)
    (entries_of peer.content.entries)

-- files say what is held, each list in any order, and nothing else; exemptions with a last day are ignored
pub record SayWhatIsHeld (held : HeldValue) (f : FilesValue) : Type 0 where
  pub criteria : SameItems f.criteria (further held.facts.criteria)
  pub entries : SameItems (as_of Own f.entries) (undated (entries_of held.facts.entries))
  pub settings : f.settings ≡ map (λ (p : HeldPeer). p.settings) held.facts.peers
  pub set : each_is_set f ≡ true
  pub contents : All (SaysWhatIsHeld f.contents) held.facts.peers
  pub publishers : f.publishers ≡ held.facts.publishers
  pub policies : f.policies ≡ held.policies
  pub tool : tool_of_files f ≡ held.settings

-- the verdict on files is Already exactly if they say what is held
abbrev pub HeldFilesAreAlready : Type 0
HeldFilesAreAlready =
    (s : State) (day : DayValue) (f : FilesValue) → IsSound s → IsFiles f
    → ChangesNothing s (replace_on day f) ↔ SayWhatIsHeld s.held f

-- two contents are the same as sets
abbrev pub SameContents : PeerContentValue → PeerContentValue → Type 0
SameContents a b = SameItems a.criteria b.criteria × SameItems a.entries b.entries

-- files say the same, each list in any order
pub record SayTheSame (f g : FilesValue) : Type 0 where
  pub criteria : SameItems f.criteria g.criteria
  pub entries : SameItems f.entries g.entries
  pub settings : f.settings ≡ g.settings
  pub peers : map (λ (p : ImportedPeer). p.name) f.contents ≡ map (λ (p : ImportedPeer). p.name) g.contents
  pub contents : (name : Name) → SameContents (content_for f.contents name) (content_for g.contents name)
  pub publishers : f.publishers ≡ g.publishers
  pub policies : f.policies ≡ g.policies
  pub tool : tool_of_files f ≡ tool_of_files g

-- after files were put in place, files that say the same change nothing
abbrev pub RepeatedFilesAreAlready : Type 0
RepeatedFilesAreAlready =
    (s : State) (day later : DayValue) (f again : FilesValue)
    → IsSound s
    → IsFiles f
    → IsFiles again
    → SayTheSame again f
    → verdict s (replace_on day f) ≡ Ok Accepted
    → ChangesNothing (next s (replace_on day f)) (replace_on later again)
