-- The steps and condemned versions of a package that is the same in two facts, and the changes that leave it the same
-- (ours).
use Rattle.std.specs.Prelude.{ℕ, ◌≡◌, ◌≢◌, ◌++◌, ◌∷◌, [], List, Option, Some, Contains, false, filter, not}
use Rattle.std.specs.FinSet as set
use Rattle.std.specs.List.{All, list_any}
use Rattle.std.specs.Ordering.{nat_cmp}
use Rattle.std.specs.Cmp.Lexicographic.{slice_cmp}
use Rattle.vet_base.specs.Day.{DayValue}
use Rattle.vet_base.specs.Keyed.{IsByKey}
use Rattle.vet_base.specs.Version.{VersionValue}
use Rattle.vet_base.specs.Words.{Name}
use Rattle.vet_entries.specs.declared.facts.HeldEntry.{HeldEntry}
use Rattle.vet_entries.specs.declared.held_peer.HeldPeer.{HeldPeer}
use Rattle.vet_entries.specs.declared.peer_settings.PeerSettings.{PeerSettings}
use Rattle.vet_entries.specs.declared.publisher.Publisher.{Publisher}
use Rattle.vet_entries.specs.ByPackage.{is_of}
use Rattle.vet_entries.specs.Condemned.{is_condemned}
use Rattle.vet_entries.specs.Facts.{Facts}
use Rattle.vet_entries.specs.HeldPeer.{holding_or_none, peer_name, peer_of, with_content, with_peer, with_settings}
use Rattle.vet_entries.specs.HeldPeer.{without_peer}
use Rattle.vet_entries.specs.Holding.{HoldingValue}
use Rattle.vet_entries.specs.Kind.{has_lapsed}
use Rattle.vet_entries.specs.Numbered.{AreByNumber, has_number}
use Rattle.vet_entries.specs.PublisherRecords.{with_records}
use Rattle.vet_entries.specs.SameOf.{IsSameOf, worded_from}
use Rattle.vet_entries.specs.Step.{SourcedEntry, entries_of, steps_of}

-- a package that is the same has the same steps
abbrev pub SameHasSameSteps : Type 0
SameHasSameSteps = (name : Name) (old new : Facts) → IsSameOf name old new → steps_of old name ≡ steps_of new name

-- and the same versions of it are condemned
abbrev pub SameIsCondemnedTheSame : Type 0
SameIsCondemnedTheSame = (name : Name) (old new : Facts) → IsSameOf name old new
    → (c : ℕ) (v : VersionValue) → is_condemned old name c v ≡ is_condemned new name c v

-- each package is the same if nothing changes
abbrev pub SameByItself : Type 0
SameByItself = (name : Name) (facts : Facts) → IsSameOf name facts facts

-- and after two changes that each leave it the same
abbrev pub SameOnward : Type 0
SameOnward = (name : Name) (a b c : Facts) → IsSameOf name a b → IsSameOf name b c → IsSameOf name a c

-- ---- the register's day

-- an entry has lapsed on both of two days, or on neither
abbrev pub LapsesAlike : Option DayValue → Option DayValue → SourcedEntry → Type 0
LapsesAlike before after e = has_lapsed e.held.entry.kind before ≡ has_lapsed e.held.entry.kind after

-- the steps of a package are the same on two days if each of its entries has lapsed on both or on neither
abbrev pub DayKeepsSteps : Type 0
DayKeepsSteps = (facts : Facts) (day : Option DayValue) (name : Name)
    → All (LapsesAlike facts.today day) (entries_of facts name)
    → steps_of facts name ≡ steps_of (record facts { today = day }) name

-- the same versions of each package are condemned on any day
abbrev pub DayCondemnsTheSame : Type 0
DayCondemnsTheSame = (facts : Facts) (day : Option DayValue) (name : Name) (c : ℕ) (v : VersionValue)
    → is_condemned facts name c v ≡ is_condemned (record facts { today = day }) name c v

-- ---- own entries and records

-- adding an own entry leaves all other packages the same
abbrev pub EntryAddedKeepsOthers : Type 0
EntryAddedKeepsOthers = (facts : Facts) (held : HeldEntry) (name : Name) → name ≢ held.entry.«package»
    → IsSameOf name facts (record facts { entries = facts.entries ++ held ∷ [] })

-- and so does removing the one with a number
abbrev pub EntryDroppedKeepsOthers : Type 0
EntryDroppedKeepsOthers = (facts : Facts) (n : ℕ) (held : HeldEntry) (name : Name) → AreByNumber facts.entries
    → Contains facts.entries held → held.number ≡ n → name ≢ held.entry.«package»
    → IsSameOf name facts (record facts { entries = filter (λ h. not (has_number n h)) facts.entries })

-- setting the publisher records of one package leaves all others the same
abbrev pub RecordsKeepOthers : Type 0
RecordsKeepOthers = (facts : Facts) (other : Name) (records : List Publisher) (name : Name) → name ≢ other
    → IsSameOf name facts (record facts { publishers = with_records other records facts.publishers })

-- ---- peers

-- the peers are in the order of their names
abbrev pub HasPeersByName : Facts → Type 0
HasPeersByName facts = IsByKey (slice_cmp nat_cmp) peer_name facts.peers

-- a peer has no entry of a package
abbrev pub HasNoneOf : Name → HoldingValue → Type 0
HasNoneOf name content = list_any (is_of name) content.entries ≡ false

-- the content held of the peer with a name, or nothing if it is not held
abbrev pub content_of : Facts → Name → HoldingValue
content_of facts peer = holding_or_none (peer_of facts.peers peer)

-- a peer set in place of the one with its name leaves a package the same if both give the same entries of it
abbrev pub PeerKeepsWhatIsWordedTheSame : Type 0
PeerKeepsWhatIsWordedTheSame = (facts : Facts) (peer : HeldPeer) (name : Name) → HasPeersByName facts
    → worded_from name (peer_of facts.peers (peer_name peer)) ≡ worded_from name (Some peer)
    → IsSameOf name facts (record facts { peers = with_peer peer facts.peers })

-- setting the settings of a peer leaves a package the same if the peer has no entry of it
abbrev pub SettingsKeepOthers : Type 0
SettingsKeepOthers = (facts : Facts) (settings : PeerSettings) (name : Name) → HasPeersByName facts
    → HasNoneOf name (content_of facts settings.name)
    → IsSameOf name facts (record facts { peers = with_settings settings facts.peers })

-- settings with the map as it was leave a package the same if it is excluded both before and after, or neither
abbrev pub ExclusionsKeepOthers : Type 0
ExclusionsKeepOthers = (facts : Facts) (held : HeldPeer) (settings : PeerSettings) (name : Name) → HasPeersByName facts
    → peer_of facts.peers settings.name ≡ Some held → settings.map ≡ held.settings.map
    → set.contains settings.exclude name ≡ set.contains held.settings.exclude name
    → IsSameOf name facts (record facts { peers = with_settings settings facts.peers })

-- another content of a peer leaves a package the same if the peer has no entry of it before or after
abbrev pub ContentKeepsOthers : Type 0
ContentKeepsOthers = (facts : Facts) (peer : Name) (content : HoldingValue) (name : Name) → HasPeersByName facts
    → HasNoneOf name (content_of facts peer) → HasNoneOf name content
    → IsSameOf name facts (record facts { peers = with_content peer content facts.peers })

-- another content with the same criteria leaves a package the same if it has the same entries of it
abbrev pub ContentKeepsSameEntries : Type 0
ContentKeepsSameEntries = (facts : Facts) (peer : Name) (content : HoldingValue) (name : Name) → HasPeersByName facts
    → content.table ≡ (content_of facts peer).table
    → filter (is_of name) content.entries ≡ filter (is_of name) (content_of facts peer).entries
    → IsSameOf name facts (record facts { peers = with_content peer content facts.peers })

-- removing a peer leaves a package the same if the peer had no entry of it
abbrev pub PeerDroppedKeepsOthers : Type 0
PeerDroppedKeepsOthers = (facts : Facts) (peer : Name) (name : Name) → HasPeersByName facts
    → HasNoneOf name (content_of facts peer)
    → IsSameOf name facts (record facts { peers = without_peer peer facts.peers })
