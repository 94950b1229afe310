-- Held peers (ours): the settings with which each is imported, and the content imported from it, in its own words.
--
-- A peer that is held (HeldPeer) is its settings and its content: the peer's criteria, with the built-in two, and its
-- entries with numbers (HoldingValue). The peers are in the order of their names, each once (peer_of). Setting the
-- settings of a peer leaves its content, and a new peer has none (with_settings, no_holding).
--
-- An import (imported) puts the given content in place of the one held, and leaves the peer's settings as they are.
-- Held entries that come again (comes_again) keep their numbers and come first. New entries (is_new, new_entries) get
-- the next numbers in the order of reading. Each entry is held as the peer's (as_peers), and those that do not come
-- again are removed (entries_after_import). The criteria are held as definitions (defined). Laws say what is held then:
-- the content's criteria and entries and nothing else, each entry once. Numbers increase, and each is the old one or a
-- new one (ImportHoldsItsContent, ImportHoldsEachOnce, ImportKeepsOrder, ImportKeepsNumbers, ImportTakesEntries).
use Rattle.std.specs.Prelude.{ℕ, List, Option, Some, None}
use Rattle.std.specs.Ordering.{nat_cmp}
use Rattle.std.specs.Cmp.Lexicographic.{slice_cmp}
use Rattle.vet_base.specs.Defined.{defined}
use Rattle.vet_base.specs.Keyed.{item_of, with_item, without_item}
use Rattle.vet_base.specs.Words.{Name}
use Rattle.vet_entries.specs.declared.entry.Entry.{Entry}
use Rattle.vet_entries.specs.declared.entry.Source.TheVariants.{Peer}
use Rattle.vet_entries.specs.declared.facts.HeldEntry.{HeldEntry}
use Rattle.vet_entries.specs.declared.held_peer.HeldPeer.{HeldPeer}
use Rattle.vet_entries.specs.declared.peer_settings.PeerSettings.{PeerSettings}
use Rattle.vet_entries.specs.Holding.{HoldingValue, no_holding}
use Rattle.vet_entries.specs.PeerContent.{PeerContentValue}
use Rattle.vet_entries.specs.Replaced.{as_of, entries_after, new_of, none_stays}
pub use Rattle.vet_entries.specs.Replaced.{comes_again, is_new}

-- the name of a peer
abbrev pub peer_name : HeldPeer → Name
peer_name peer = peer.settings.name

-- the peer with a name, if it is held
abbrev pub peer_of : List HeldPeer → Name → Option HeldPeer
peer_of peers name = item_of (slice_cmp nat_cmp) peer_name peers name

-- the peers with this one in place of the one with its name, or among the others
abbrev pub with_peer : HeldPeer → List HeldPeer → List HeldPeer
with_peer peer peers = with_item (slice_cmp nat_cmp) peer_name peers peer

-- the peers without the one with a name
abbrev pub without_peer : Name → List HeldPeer → List HeldPeer
without_peer name peers = without_item (slice_cmp nat_cmp) peer_name peers name

-- the content held of a peer, or nothing if the peer is not held
abbrev pub holding_or_none : Option HeldPeer → HoldingValue
holding_or_none None = no_holding
holding_or_none (Some peer) = peer.content

-- the peers with these settings for the one with their name, and the content held of it
abbrev pub with_settings : PeerSettings → List HeldPeer → List HeldPeer
with_settings settings peers =
    with_peer (record { settings = settings; content = holding_or_none (peer_of peers settings.name) }) peers

-- the peers with this content for a peer, or unchanged if it is not held
abbrev pub with_content_of : Option HeldPeer → HoldingValue → List HeldPeer → List HeldPeer
with_content_of None content peers = peers
with_content_of (Some peer) content peers = with_peer (record peer { content = content }) peers

abbrev pub with_content : Name → HoldingValue → List HeldPeer → List HeldPeer
with_content name content peers = with_content_of (peer_of peers name) content peers

-- ---- imports

-- entries as those of a peer
abbrev pub as_peers : Name → List Entry → List Entry
as_peers name entries = as_of (Peer name) entries

-- those of some entries of a peer that are not held, in the order of reading
abbrev pub new_entries : Name → List HeldEntry → List Entry → List Entry
new_entries name held entries = new_of (Peer name) held entries

-- the entries after an import, given the next number
abbrev pub entries_after_import : Name → ℕ → List HeldEntry → List Entry → List HeldEntry
entries_after_import name next held entries = entries_after none_stays (Peer name) next held entries

-- the content held of a peer after an import
abbrev pub imported : Name → ℕ → PeerContentValue → HoldingValue → HoldingValue
imported name next content held = record {
  table = defined content.criteria;
  entries = entries_after_import name next held.entries content.entries;
}
