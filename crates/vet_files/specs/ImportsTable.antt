-- The table of an imports file, as a function of its content (The Cargo Vet Book, imports.lock; that excluded packages
-- are left out is ours).
use Rattle.std.specs.Prelude.{pos, List, [], ◌∷◌, Option, Some, if◌then◌else◌, map}
use Rattle.std.specs.FinSet as set
use Rattle.std.specs.Str.{bytes_eq}
use Rattle.toml.specs.Data.{Data, string, integer, array, table, Items, Members}
use Rattle.toml.specs.View.{items_of}
use Rattle.vet_base.specs.Day.{day_text}
use Rattle.vet_base.specs.Names.{NameSet}
use Rattle.vet_base.specs.Version.{version_text}
use Rattle.vet_base.specs.Words.{Key, Name}
use Rattle.vet_entries.specs.declared.peer_settings.PeerSettings.{PeerSettings}
use Rattle.vet_entries.specs.declared.publisher.Publisher.{Publisher}
use Rattle.vet_entries.specs.declared.publisher_records.PackagePublishers.{PackagePublishers}
use Rattle.vet_files.specs.KeyNames.{AUDITS, PUBLISHER, USER_ID, USER_LOGIN, USER_NAME, VERSION, WHEN}
use Rattle.vet_files.specs.declared.imports_file.ImportedPeer.{ImportedPeer}
use Rattle.vet_files.specs.declared.imports_file.ImportsContent.{ImportsContent}
use Rattle.vet_files.specs.AuditsTable.{audits_file_table}
use Rattle.vet_files.specs.EntryTables.{some_text}
use Rattle.vet_files.specs.Tables.{by_name, fields, unless_empty}

-- ---- `publisher`

-- a publisher record
abbrev pub publisher_fields : Publisher → List (Key × Option Data)
publisher_fields p =
    (USER_ID, Some (integer (pos p.user))) ∷ (USER_LOGIN, some_text p.login) ∷
    (USER_NAME, some_text p.name)
    ∷ (VERSION, Some (string (version_text p.version))) ∷ (WHEN, Some (string (day_text p.day))) ∷ []

abbrev pub publisher_table : Publisher → Members
publisher_table p = fields (publisher_fields p)

-- the records of a package, in order
abbrev pub publisher_items : List Publisher → Items
publisher_items records = items_of (map (λ p. table (publisher_table p)) records)

abbrev pub publishers_table : List PackagePublishers → Members
publishers_table packages = by_name (map (λ p. (p.«package», array (publisher_items p.publishers))) packages)

-- ---- `audits`

-- the packages for which nothing is taken from a peer: those that the first settings with its name exclude
abbrev pub excluded_of : List PeerSettings → Name → NameSet
excluded_of [] name = set.empty
excluded_of (s ∷ rest) name = if bytes_eq name s.name then s.exclude else excluded_of rest name

-- the content imported from a peer, less the entries of excluded packages
abbrev pub imported_peer_table : List PeerSettings → ImportedPeer → Members
imported_peer_table settings peer = audits_file_table (excluded_of settings peer.name) peer.content.criteria
    peer.content.entries

abbrev pub imported_peers_table : List PeerSettings → List ImportedPeer → Members
imported_peers_table settings peers = by_name (map (λ p. (p.name, table (imported_peer_table settings p))) peers)

-- ---- the file

-- the table of an imports file. The table `audits` is there even if it is empty.
abbrev pub imports_fields : List PeerSettings → ImportsContent → List (Key × Option Data)
imports_fields settings content =
    (AUDITS, Some (table (imported_peers_table settings content.peers)))
    ∷ (PUBLISHER, unless_empty (publishers_table content.publishers)) ∷ []

abbrev pub imports_table : List PeerSettings → ImportsContent → Members
imports_table settings content = fields (imports_fields settings content)
