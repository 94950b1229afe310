-- The facts about packages (ours): a table of criteria, one's own entries, peers with theirs, publisher records, and
-- the register's day.
--
-- The facts are a table of criteria, own entries of all six kinds, peers with the content held of each, publisher
-- records, and the register's day, if it has one (Facts). The register's day is not the day of a command.
--
-- entries_total is the number of entries of all sources.
--
-- No facts are the built-in criteria, no entries, no peers, no publisher records and no day (no_facts).
use Rattle.std.specs.Prelude.{ℕ, ◌≡◌, ◌<◌, ◌≤◌, ◌+◌, ◌-◌, ◌||◌, Bool, false, true, List, [], Option, None, length}
use Rattle.std.specs.Prelude.{insert, is_some, remove}
use Rattle.std.specs.List.{list_any, sum_by}
use Rattle.std.specs.FinSet as set
use Rattle.std.specs.Ordering.{nat_cmp}
use Rattle.std.specs.Cmp.Lexicographic.{slice_cmp}
use Rattle.vet_base.specs.Criteria.{Criteria, built_in_criteria}
use Rattle.vet_base.specs.Day.{DayValue}
use Rattle.vet_base.specs.Words.{Name}
use Rattle.vet_entries.specs.declared.facts.Edit.{Edit}
use Rattle.vet_entries.specs.declared.facts.Edit.TheVariants as edit
use Rattle.vet_entries.specs.declared.facts.HeldEntry.{HeldEntry}
use Rattle.vet_entries.specs.declared.held_peer.HeldPeer.{HeldPeer}
use Rattle.vet_entries.specs.declared.publisher_records.PackagePublishers.{PackagePublishers}
use Rattle.vet_entries.specs.HeldPeer.{peer_name, peer_of, with_content, with_settings}
use Rattle.vet_entries.specs.Numbered.{AreByNumber}
use Rattle.vet_entries.specs.PeerWords.{targets}
use Rattle.vet_base.specs.Keyed as keyed
use Rattle.vet_base.specs.Keyed.{KeyedRoom}
use Rattle.vet_entries.specs.PublisherRecords.{FitsPublishers}

-- the criteria, one's own entries in the order of their numbers, the peers in the order of their names, the publisher
-- records of packages in the order of their names, and the register's day, if it has one
pub record Facts : Type 0 where
  pub criteria : Criteria
  pub entries : List HeldEntry
  pub peers : List HeldPeer
  pub publishers : List PackagePublishers
  pub today : Option DayValue

-- the numbers of further own entries, peers, and packages with records for which there is room
pub record Room : Type 0 where
  pub entries : ℕ
  pub peers : ℕ
  pub packages : ℕ

-- facts, and their room
pub record FactsRoom : Type 0 where
  pub content : Facts
  pub room : Room

-- the publisher records, and the number of further packages for which there is room
abbrev pub publishers_room : FactsRoom → KeyedRoom PackagePublishers
publishers_room facts = record { items = facts.content.publishers; room = facts.room.packages }

-- the peers, and the number of further ones for which there is room
abbrev pub peers_room : FactsRoom → KeyedRoom HeldPeer
peers_room facts = record { items = facts.content.peers; room = facts.room.peers }

-- only the built-in criteria
abbrev pub no_facts : Facts
no_facts = record { criteria = built_in_criteria; entries = []; peers = []; publishers = []; today = None }

-- the number of entries of all sources
abbrev pub entries_of_peers : List HeldPeer → ℕ
entries_of_peers peers = sum_by (λ peer. length peer.content.entries) peers

abbrev pub entries_total : Facts → ℕ
entries_total facts = length facts.entries + entries_of_peers facts.peers

-- an entry names a criterion
abbrev pub is_named_by : Name → HeldEntry → Bool
is_named_by name held = set.contains held.entry.criteria name

-- the map of a peer leads to a criterion
abbrev pub is_target_of : Name → HeldPeer → Bool
is_target_of name peer = set.contains (targets peer.settings.map) name

-- an own entry or the map of a peer names a criterion; a peer's own words do not count
abbrev pub is_named : Facts → Name → Bool
is_named facts name = list_any (is_named_by name) facts.entries || list_any (is_target_of name) facts.peers

-- ---- edits

-- the facts after an edit
abbrev pub edited : Edit → Facts → Facts
edited (edit.Criteria table) facts = record facts { criteria = table }
edited (edit.Insert place held) facts = record facts { entries = insert facts.entries place held }
edited (edit.Remove place) facts = record facts { entries = remove facts.entries place }
edited (edit.Peer change) facts = record facts { peers = keyed.edited change facts.peers }
edited (edit.Settings settings) facts = record facts { peers = with_settings settings facts.peers }
edited (edit.Content name content) facts = record facts { peers = with_content name content facts.peers }
edited (edit.Publishers change) facts = record facts { publishers = keyed.edited change facts.publishers }
edited (edit.Today day) facts = record facts { today = day }

-- whether the table of criteria stays
abbrev pub keeps_criteria : Edit → Bool
keeps_criteria (edit.Criteria table) = false
keeps_criteria (edit.Insert place held) = true
keeps_criteria (edit.Remove place) = true
keeps_criteria (edit.Peer change) = true
keeps_criteria (edit.Settings settings) = true
keeps_criteria (edit.Content name content) = true
keeps_criteria (edit.Publishers change) = true
keeps_criteria (edit.Today day) = true

-- a peer with a name is held
abbrev pub IsHeld : Name → Facts → Type 0
IsHeld name facts = is_some (peer_of facts.peers name) ≡ true

-- an edit can be made, and takes no memory
abbrev pub Fits : Edit → FactsRoom → Type 0
Fits (edit.Criteria table) facts = Unit {0}
Fits (edit.Insert place held) facts =
    (place ≤ length facts.content.entries)
    × ((0 < facts.room.entries) × AreByNumber (insert facts.content.entries place held))
Fits (edit.Remove place) facts = place < length facts.content.entries
Fits (edit.Peer change) facts = keyed.Fits (slice_cmp nat_cmp) peer_name change (peers_room facts)
Fits (edit.Settings settings) facts = IsHeld settings.name facts.content
Fits (edit.Content name content) facts = IsHeld name facts.content × AreByNumber content.entries
Fits (edit.Publishers change) facts = FitsPublishers change (publishers_room facts)
Fits (edit.Today day) facts = Unit {0}

-- the room after an edit
abbrev pub room_after : Edit → Room → Room
room_after (edit.Criteria table) room = room
room_after (edit.Insert place held) room = record room { entries = room.entries - 1 }
room_after (edit.Remove place) room = record room { entries = room.entries + 1 }
room_after (edit.Peer change) room = record room { peers = keyed.room_after change room.peers }
room_after (edit.Settings settings) room = room
room_after (edit.Content name content) room = room
room_after (edit.Publishers change) room = record room { packages = keyed.room_after change room.packages }
room_after (edit.Today day) room = room

-- the new room includes the old: if the old has room for something, so has the new
abbrev pub HoldsRoomOf : Room → Room → Type 0
HoldsRoomOf old new = (old.entries ≤ new.entries) × ((old.peers ≤ new.peers) × (old.packages ≤ new.packages))

-- an edit that fits still fits if the facts are the same and no room is lost
abbrev pub FitsWithMoreRoom : Type 0
FitsWithMoreRoom = (e : Edit) (facts : Facts) (old new : Room) → HoldsRoomOf old new
    → Fits e (record { content = facts; room = old }) → Fits e (record { content = facts; room = new })

-- no room is lost if nothing changes
abbrev pub RoomHoldsItself : Type 0
RoomHoldsItself = (room : Room) → HoldsRoomOf room room

-- no room is lost by two changes, one after the other, of which neither loses any
abbrev pub RoomHoldsOnward : Type 0
RoomHoldsOnward = (a b c : Room) → HoldsRoomOf a b → HoldsRoomOf b c → HoldsRoomOf a c
